-- What the functions leave by which a call with one output ends, and what their proofs search.
-- Assumes nothing.
use Rattle.std.specs.Prelude.{◌≡◌, refl, ℕ, ◌+◌, ◌-◌, ◌≤◌, Bool, ◌&&◌, List, [], take, replicate}
use Rattle.std.proofs.Common.{◌∙◌, arith, length-take-le}
use Rattle.std.proofs.Math.ListN.{length, length-replicate}
use Rattle.slices.specs.Splice.{splice}
use Rattle.slices.specs.Splice.Laws.{splice_end}
use Rattle.tables.specs.Checks.{within_limit}
use Rattle.answers.specs.declared.Answer.{Answer}
use Rattle.answers.specs.Outcome.{accepted, refused, answer, event_bytes, padded, LeftKept, leaves_kept}

-- ---- zeros

module _ (l : List ℕ) (n : ℕ) where
  pub cleared_past : {l' : List ℕ} → n ≤ length l → l' ≡ splice l n (replicate (length l - n) 0) → l' ≡ padded (length l) (take n l)
  unfolding padded
  cleared_past h e =
      let f : n + length (replicate {A = ℕ} (length l - n) 0) ≡ length l = rw length-replicate (omega arith) in
      e ∙ (splice_end l n (replicate (length l - n) 0) f ∙ rw (length-take-le n l h))

pub answer_refused : (number place : ℕ) → ◌≡◌ {A = Answer} (record { number = number; place = place; read = 0; events = 0; values = 0; steps = 0 }) (answer (refused number place))
unfolding answer
answer_refused number place = refl

pub limits_are : (events values room : ℕ) {a b c : Bool} → a ≡ within_limit events → b ≡ within_limit values → c ≡ within_limit room → (a && b && c) ≡ (within_limit events && within_limit values && within_limit room)
limits_are events values room p q r = rw (p, q, r)

pub ruleset past_laws = (cleared_past, answer_refused, limits_are)

-- ---- the end

pub refused_kept : (kept : List ℕ) {kept' : List ℕ} {r : Answer} (number place : ℕ) → kept' ≡ padded (length kept) (take 0 kept) → r ≡ answer (refused number place)
    → ◌≡◌ {A = LeftKept} (record { answer = r; kept = kept' }) (leaves_kept (length kept) (refused number place))
unfolding leaves_kept event_bytes
refused_kept kept number place e q = rw (e, q)

pub accepted_kept : (kept : List ℕ) (read n steps : ℕ) → n ≤ length kept → {kept' : List ℕ} → kept' ≡ padded (length kept) (take n kept) → {i m : ℕ} → i ≡ read → m ≡ n
    → ◌≡◌ {A = LeftKept} (record { answer = record { number = 0; place = 0; read = i; events = m; values = 0; steps = steps }; kept = kept' }) (leaves_kept (length kept) (accepted read (take n kept) [] steps))
unfolding leaves_kept answer event_bytes
accepted_kept kept read n steps h p q o = rw (p, q, o, length-take-le n kept h)

pub ruleset one_laws = (refused_kept, accepted_kept)
