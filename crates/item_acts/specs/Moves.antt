-- A reading goes from place to place. What is left of its scan at a place is some predicate of scans: of a move, whatever is left at the first place runs as
-- what is then left at the second.
-- Assumes nothing.
use Rattle.event_rooms.specs.Put.{Put}
use Rattle.std.specs.Prelude.{ℕ, ◌≡◌, List, [], ◌∷◌, None, Some}
use Rattle.std.proofs.Common.{sym, subst}
use Rattle.tables.specs.Lists.{Lists}
use Rattle.rules.specs.Gather.{Act, time, does}
use Rattle.records.specs.Event as event
use Rattle.event_rooms.specs.declared.Counts.{Counts}
use Rattle.event_rooms.specs.Out.Laws.{Appends}
use Rattle.rules.specs.Scan.{Scan, say}
use Rattle.gather.specs.Run.{fitted, events_of, acted, after, run}
use Rattle.gather.specs.Memory.{Mem, mem_of}
use Rattle.gather.specs.declared.Gathered.{Gathered}
use Rattle.item_turns.specs.Leads.{Leads, leads_self, leads_then, leads_quits, Quits}

-- an act is said, and then what is left
pub record Says (a : Act) (p : ℕ) (L : Scan → Type 0) (sc : Scan) : Type 0 where
  pub rest : Scan
  pub scans : sc ≡ say a p rest
  pub left : L rest

pub record Moves (t : Lists) (m : Mem) (c : Gathered) (L : Scan → Type 0) (m' : Mem) (c' : Gathered) (L' : Scan → Type 0) : Type 0 where
  pub moves : (sc : Scan) → L sc → (sc' : Scan) × L' sc' × Leads t m c sc m' c' sc'

pub record Refuses (t : Lists) (m : Mem) (c : Gathered) (L : Scan → Type 0) (n p : ℕ) : Type 0 where
  pub refuses : (sc : Scan) → L sc → Quits t m c sc n p

-- ---- what is left, said otherwise

module _ {t : Lists} {m : Mem} {c : Gathered} {L K : Scan → Type 0} (k : (sc : Scan) → L sc → K sc) where
  pub moves_from : {m' : Mem} {c' : Gathered} {L' : Scan → Type 0} → Moves t m c K m' c' L' → Moves t m c L m' c' L'
  moves_from f = record { moves = λ sc l. f.moves sc (k sc l) }

  pub refuses_from : {n p : ℕ} → Refuses t m c K n p → Refuses t m c L n p
  refuses_from f = record { refuses = λ sc l. f.refuses sc (k sc l) }

-- ---- one after the other

pub moves_self : {t : Lists} {m : Mem} {c : Gathered} {L : Scan → Type 0} → Moves t m c L m c L
moves_self = record { moves = λ sc l. (sc, l, leads_self) }

module _ {t : Lists} {m : Mem} {c : Gathered} {L : Scan → Type 0} {m₁ : Mem} {c₁ : Gathered} {L₁ : Scan → Type 0} (f : Moves t m c L m₁ c₁ L₁) where
  pub moves_then : {m₂ : Mem} {c₂ : Gathered} {L₂ : Scan → Type 0} → Moves t m₁ c₁ L₁ m₂ c₂ L₂ → Moves t m c L m₂ c₂ L₂
  moves_then k =
      record {
        moves = λ sc l.
            let y = f.moves sc l in
            let z = k.moves y.0 y.1 in (z.0, z.1, leads_then y.2 z.2);
      }

  pub moves_refuses : {n p : ℕ} → Refuses t m₁ c₁ L₁ n p → Refuses t m c L n p
  moves_refuses k = record { refuses = λ sc l. let y = f.moves sc l in leads_quits y.2 (k.refuses y.0 y.1) }

-- ---- a time

abbrev pub counting : Gathered → Counts → Gathered
counting c n = record { ended = c.ended; listed = c.listed; counts = n }

module _ (t : Lists) (room list : List ℕ) {events values : List ℕ} {c : Gathered} {u : ℕ} {events' : List ℕ} {q : Put} (f : Appends (event.time u ∷ []) events values c.counts events' values q) (p : ℕ) where
  pub time_leads : {n : Counts} → q ≡ Some n → (rest : Scan) → Leads t (mem_of room list events values) c (say (time u) p rest) (mem_of room list events' values) (counting c n) rest
  unfolding run acted after events_of does fitted
  time_leads d rest =
      record {
        leads = λ r g o h.
            let k = (rw d at f).comes r o h.written in
            (g, k.0, record { stands = h.stands; clean = h.clean; written = k.2 }, rw k.1);
      }

  pub time_quits : q ≡ None → (rest : Scan) → Quits t (mem_of room list events values) c (say (time u) p rest) 16 p
  unfolding run acted after events_of does fitted
  time_quits d rest = record { quits = λ r g o h. let k = (rw d at f).comes r o h.written in rw k }

  pub time_moves : {n : Counts} → q ≡ Some n → {L : Scan → Type 0} → Moves t (mem_of room list events values) c (Says (time u) p L) (mem_of room list events' values) (counting c n) L
  time_moves {n} d =
      record {
        moves = λ sc l. (
          l.rest,
          l.left,
          subst (λ (v : Scan). Leads t (mem_of room list events values) c v (mem_of room list events' values) (counting c n) l.rest) (sym l.scans) (time_leads d l.rest),
        );
      }

  pub time_refuses : q ≡ None → {L : Scan → Type 0} → Refuses t (mem_of room list events values) c (Says (time u) p L) 16 p
  time_refuses d = record { refuses = λ sc l. subst (λ (v : Scan). Quits t (mem_of room list events values) c v 16 p) (sym l.scans) (time_quits d l.rest) }
