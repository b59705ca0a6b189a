-- What code that goes through a scan in turns promises: what is left to be run after it is what was left before.
-- Assumes nothing.
use Rattle.std.specs.Prelude.{ℕ, ◌≡◌, refl, Bool}
use Rattle.std.proofs.Common.{◌∙◌}
use Rattle.tables.specs.Lists.{Lists}
use Rattle.rules.specs.Gather.{Act, State}
use Rattle.event_rooms.specs.Out.{Rooms, Out}
use Rattle.rules.specs.Scan.{Scan, say}
use Rattle.gather.specs.Run.{out, run}
use Rattle.gather.specs.Memory.{Holds, Mem}
use Rattle.gather.specs.declared.Gathered.{Gathered}
use Rattle.turns.specs.Goes.{left_of, Goes, Stops}

-- for every state that the memory holds, it holds one afterwards from which the second scan runs as the first did
pub record Leads (t : Lists) (m : Mem) (c : Gathered) (sc : Scan) (m' : Mem) (c' : Gathered) (sc' : Scan) : Type 0 where
  pub leads : (r : Rooms) (g : State) (o : Out) → Holds t r m c g o → (g' : State) × (o' : Out) × Holds t r m' c' g' o' × (run t r sc g o ≡ run t r sc' g' o')

-- a refusal's number and place
pub record Quits (t : Lists) (m : Mem) (c : Gathered) (sc : Scan) (n p : ℕ) : Type 0 where
  pub quits : (r : Rooms) (g : State) (o : Out) → Holds t r m c g o → run t r sc g o ≡ out n p

pub leads_self : {t : Lists} {m : Mem} {c : Gathered} {sc : Scan} → Leads t m c sc m c sc
leads_self = record { leads = λ r g o h. (g, o, h, refl) }

module _ {t : Lists} {m : Mem} {c : Gathered} {sc : Scan} {m₁ : Mem} {c₁ : Gathered} {sc₁ : Scan} (f : Leads t m c sc m₁ c₁ sc₁) where
  pub leads_then : {m₂ : Mem} {c₂ : Gathered} {sc₂ : Scan} → Leads t m₁ c₁ sc₁ m₂ c₂ sc₂ → Leads t m c sc m₂ c₂ sc₂
  leads_then k =
      record {
        leads = λ r g o h.
            let x = f.leads r g o h in
            let y = k.leads r x.0 x.1 x.2 in (y.0, y.1, y.2, x.3 ∙ y.3);
      }

  pub leads_quits : {n p : ℕ} → Quits t m₁ c₁ sc₁ n p → Quits t m c sc n p
  leads_quits k = record { quits = λ r g o h. let x = f.leads r g o h in x.3 ∙ k.quits r x.0 x.1 x.2 }

-- so do the turns
module _ {t : Lists} {m : Mem} {c : Gathered} {a : Act} where
  pub goes_leads : {m' : Mem} {c' : Gathered} {over : Bool} → ((r : Rooms) (g : State) (o : Out) → Holds t r m c g o → Goes t r a m' c' over g o) → (p : ℕ) (rest : Scan) → Leads t m c (say a p rest) m' c' (left_of over a p rest)
  goes_leads f p rest = record { leads = λ r g o h. let x = f r g o h in (x.state, x.output, x.holds, x.left p rest) }

  pub stops_quits : ((r : Rooms) (g : State) (o : Out) → Holds t r m c g o → Stops t r a g o) → (p : ℕ) (rest : Scan) → Quits t m c (say a p rest) 16 p
  stops_quits f p rest = record { quits = λ r g o h. (f r g o h).stops p rest }
