-- What an item that is done leaves, for any scan whose items are said as they stand: the moves of a reading.
-- Assumes nothing.
use Rattle.std.specs.Prelude.{ℕ, ◌<◌, ◌≤◌, ◌≡◌, refl, Bool, true, false, List}
use Rattle.std.proofs.Common.{sym, ◌∙◌, arith}
use Rattle.std.proofs.Math.Path.{ap, subst}
use Rattle.std.proofs.lemmas.Bool.{false≢true}
use Rattle.tables.specs.Lists.{Lists}
use Rattle.rules.specs.Gather.{State, step_end}
use Rattle.event_rooms.specs.Out.{Rooms, Out}
use Rattle.rules.specs.Scan.{Scan, say, fault}
use Rattle.gather.specs.Run.{run}
use Rattle.gather.specs.Memory.{Holds, Mem}
use Rattle.section_heads.specs.declared.Said.{Said}
use Rattle.section_heads.specs.declared.Said.TheVariants.{Nothing, Time, Write, StepEnd, Over, Bad}
use Rattle.section_heads.specs.declared.Item.{Item}
use Rattle.gather.specs.declared.Gathered.{Gathered}
use Rattle.vector_turns.specs.OneVector.{is_act, is_write, act_of, next_step}
use Rattle.vector_turns.specs.OneVector.Laws.{waits, to_turn}
use Rattle.item_turns.specs.declared.Went.{Went}
use Rattle.item_turns.specs.Leads.{Leads, Quits}
use Rattle.item_turns.specs.Turn.{said_behind, Done}
use Rattle.item_acts.specs.Moves.{Says, Moves, Refuses}
use Rattle.item_acts.specs.Acts as acts
use Rattle.item_acts.specs.Acts.{Stays, Closes, Refusal, SaysBy, SaidAt, to_go}

-- an act is said
says_act : {L : Scan → Type 0} (x : Item) {sc : Scan} (a : Said) → is_act a ≡ true → SaysBy L x sc a → (pos : ℕ) × Says (act_of x.said pos) x.at L sc
says_act x Nothing e f = absurd f
says_act x (Time u) e f = absurd f
says_act x (Write v id) e f = f
says_act x StepEnd e f = f
says_act x Over e f = absurd f
says_act x (Bad n) e f = absurd (false≢true e)

pub write_act : (a : Said) → is_write a ≡ true → is_act a ≡ true
write_act Nothing e = e
write_act (Time u) e = e
write_act (Write v id) e = refl
write_act StepEnd e = refl
write_act Over e = e
write_act (Bad n) e = e

-- behind an item: at once, or after what is said along a vector
pub record LeftBehind (L : Scan → Type 0) (says : Scan → Scan) (sc : Scan) : Type 0 where
  pub rest : Scan
  pub left : L rest
  pub scans : sc ≡ says rest

acting : {x : Item} {L N : Scan → Type 0} → ((sc : Scan) → L sc → SaidAt N x sc) → is_act x.said ≡ true → (sc : Scan) → L sc → (pos : ℕ) × Says (act_of x.said pos) x.at N sc
acting {x} f e sc l = says_act x x.said e (f sc l).says

module _ {t : Lists} {m : Mem} {c : Gathered} {x : Item} {L N : Scan → Type 0} (says : (sc : Scan) → L sc → SaidAt N x sc) where
  pub stays_moves : {m' : Mem} {c' : Gathered} → Stays t m c x m' c' → Moves t m c L m' c' L
  stays_moves {m'} {c'} f =
      record {
        moves = λ sc l.
            let y = acting says f.act sc l in (
              sc,
              l,
              subst (λ (v : Scan). Leads t m c v m' c' v) (sym y.1.scans) (f.waits.leads y.0 x.at y.1.rest),
            );
      }

  pub closes_moves : {m' : Mem} {c' : Gathered} {p : ℕ} → Closes t m c x m' c' p → Moves t m c L m' (next_step c') N
  closes_moves {m'} {c'} f =
      record {
        moves = λ sc l.
            let y = acting says (ap is_act f.ends) sc l in
            let k : sc ≡ say step_end x.at y.1.rest = y.1.scans ∙ ap (λ (a : Said). say (act_of a y.0) x.at y.1.rest) f.ends in
            (y.1.rest, y.1.left, subst (λ (v : Scan). Leads t m c v m' (next_step c') y.1.rest) (sym k) (f.leads x.at y.1.rest));
      }

  module _ {s : List ℕ} {m' : Mem} {w : Went} (f : Done t s m c x m' w) {N' : Scan → Type 0} where
    pub done_moves : ((sc : Scan) → N sc → LeftBehind N' (said_behind f.behind) sc) → Moves t m c L m' w.g N'
    done_moves b =
        record {
          moves = λ sc l.
              let y = acting says (write_act x.said f.wrote) sc l in
              let z = b y.1.rest y.1.left in
              let k : sc ≡ say (act_of x.said y.0) x.at (said_behind f.behind z.rest) = y.1.scans ∙ ap (say (act_of x.said y.0) x.at) z.scans in
              (z.rest, z.left, subst (λ (v : Scan). Leads t m c v m' w.g z.rest) (sym k) (f.leads y.0 z.rest));
        }

  pub refused_refuses : {n p : ℕ} → Refusal t m c x n p → Refuses t m c L n p
  unfolding run
  refused_refuses (acts.full e f) =
      record { refuses = λ sc l. let y = acting says e sc l in subst (λ (v : Scan). Quits t m c v 16 x.at) (sym y.1.scans) (f.quits y.0 x.at y.1.rest) }
  refused_refuses (acts.bad {n} {p} e) =
      record {
        refuses = λ sc l.
            let k : sc ≡ fault n p = subst (SaysBy N x sc) e (says sc l).says in
            record { quits = λ r g o h. ap (λ (v : Scan). run t r v g o) k };
      }

-- ---- there is less to do

-- no more vectors are listed than there are
few_turns : {t : Lists} {r : Rooms} {m : Mem} {c : Gathered} {g : State} {o : Out} → Holds t r m c g o → (b : Bool) → to_turn c b ≤ 32767
unfolding to_turn
few_turns h true = omega (arith, h.stands.listed.most, h.stands.laid.few)
few_turns h false = omega (arith, h.stands.listed.most, h.stands.laid.few)

-- further on
pub on_less : {t : Lists} {r : Rooms} {m' : Mem} {c' : Gathered} {g : State} {o : Out} → Holds t r m' c' g o → {left' left : ℕ} → left' < left → (a' : Said) (room : List ℕ) (c : Gathered) (a : Said)
    → to_go t left' m'.room c' a' < to_go t left room c a
unfolding to_go
on_less {t} {m' = m'} h l a' room c a = omega (arith, l, few_turns h (waits t m'.room a'))

-- at the same place
pub stay_less : {t : Lists} {m : Mem} {c : Gathered} {x : Item} {m' : Mem} {c' : Gathered} → Stays t m c x m' c' → (left : ℕ) → to_go t left m'.room c' x.said < to_go t left m.room c x.said
unfolding to_go
stay_less f left = omega (arith, f.waits.less)
