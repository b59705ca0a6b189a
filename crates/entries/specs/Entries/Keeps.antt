-- What the time rule's entry does: what it reports where it is accepted, and which numbers a refusal may have.
-- Assumes nothing.
use Rattle.std.specs.Prelude.{ℕ, ◌≤◌, ◌≡◌, refl, ◌⊎◌, Bool, true, false, cond, ◌&&◌, List, [], length}
use Rattle.std.proofs.Common.{inl, inr, arith}
use Rattle.tables.specs.Checks.{within_limit}
use Rattle.encoder.specs.Rule.{Kept, Ruled, time_rule}
use Rattle.encoder.specs.Rule as rules
use Rattle.encoder.specs.Rule.Keeping.{Keeps, Refusal}
use Rattle.encoder.specs.Rule.Keeping.Laws.{rule_keeps}
use Rattle.encoder.specs.Rule.Keeping.Refusals.{rule_refuses}
use Rattle.answers.specs.Outcome.{Outcome, accepted, refused, answer, event_bytes, value_bytes}
use Rattle.entries.specs.Entries.{ruled}
use Rattle.answers.specs.Outcome.Laws.{Allowed, acceptance_is}

-- "1,073,741,823 bytes .. in any other buffer, the time rule's event and value inputs among them": the entry's own check
abbrev pub limits_of : List ℕ → (values room : ℕ) → Bool
limits_of s values room = within_limit (length s) && within_limit values && within_limit room

abbrev pub rule_outcome : List ℕ → (values room : ℕ) → Outcome
rule_outcome s values room = cond (limits_of s values room) (ruled (time_rule s values room)) (refused 1 0)

ruled_accepted : (x : Ruled) (i : ℕ) (es vs : List ℕ) (n : ℕ) → ruled x ≡ accepted i es vs n → (k : Kept) × (x ≡ rules.ruled i k) × (es ≡ k.events) × (vs ≡ []) × (n ≡ k.steps)
unfolding ruled
ruled_accepted (rules.ruled j k) i es vs n e = let a : j ≡ i = cc in (k, rw a, (cc), (cc), (cc))
ruled_accepted (rules.refused m p) i es vs n e = let z : ◌≡◌ {A = ℕ} 0 1 = cc in absurd (omega arith)

ruled_refused : (x : Ruled) (n p : ℕ) → ruled x ≡ refused n p → x ≡ rules.refused n p
unfolding ruled
ruled_refused (rules.ruled j k) n p e = let z : ◌≡◌ {A = ℕ} 0 1 = cc in absurd (omega arith)
ruled_refused (rules.refused m q) n p e = let a : m ≡ n = cc in let b : q ≡ p = cc in rw (a, b)

module _ (s : List ℕ) (values room : ℕ) where
  pub record Accepted (i : ℕ) (es vs : List ℕ) (n : ℕ) : Type 0 where
    pub passed : limits_of s values room ≡ true
    pub kept : Kept
    pub by_rule : Keeps s values room i kept
    pub events : es ≡ kept.events
    pub no_values : vs ≡ []
    pub steps : n ≡ kept.steps

  pub rule_accepted : (i : ℕ) (es vs : List ℕ) (n : ℕ) → rule_outcome s values room ≡ accepted i es vs n → Accepted i es vs n
  rule_accepted i es vs n = go (limits_of s values room) refl
    where
      go : (b : Bool) → limits_of s values room ≡ b → cond b (ruled (time_rule s values room)) (refused 1 0) ≡ accepted i es vs n → Accepted i es vs n
      go true b e =
          let (k, a, c, d, f) = ruled_accepted (time_rule s values room) i es vs n e in
          record { passed = b; kept = k; by_rule = rule_keeps s values room i k a; events = c; no_values = d; steps = f }
      go false b e = let z : ◌≡◌ {A = ℕ} 0 1 = cc in absurd (omega arith)

  -- why it is refused: by its check, at a record, or with 16 because what is kept does not fit
  abbrev Why : (n p : ℕ) → Type 0
  Why n p = ((limits_of s values room ≡ false) × (n ≡ 1) × (p ≡ 0)) ⊎ ((limits_of s values room ≡ true) × Refusal s values room n p)

  rule_refused : (n p : ℕ) → rule_outcome s values room ≡ refused n p → Why n p
  rule_refused n p = go (limits_of s values room) refl
    where
      go : (b : Bool) → limits_of s values room ≡ b → cond b (ruled (time_rule s values room)) (refused 1 0) ≡ refused n p → Why n p
      go true b e = inr (b, rule_refuses s values room n p (ruled_refused (time_rule s values room) n p e))
      go false b e = inl (b, (cc), (cc))

  why_number : (n p : ℕ) → Why n p → (1 ≤ n) × (n ≤ 20)
  why_number n p (inl (b, e, f)) = (omega arith, omega arith)
  why_number n p (inr (b, inl o)) = (omega (arith, o.number), omega (arith, o.number))
  why_number n p (inr (b, inr (e, o))) = (omega arith, omega arith)

  allowed : (o : Outcome) → rule_outcome s values room ≡ o → Allowed 20 (length s) room 0 o
  unfolding Allowed
  allowed (accepted i es vs n) e =
      let a = rule_accepted i es vs n e in
      (omega (arith, a.by_rule.read), rw a.events a.by_rule.fits, rw a.no_values (omega arith))
  allowed (refused n p) e = why_number n p (rule_refused n p e)

  pub rule_allowed : Allowed 20 (length s) room 0 (rule_outcome s values room)
  rule_allowed = allowed (rule_outcome s values room) refl

  -- by its number an answer says whether it is an acceptance
  pub ruling_accepted : (answer (rule_outcome s values room)).number ≡ 0
      → Accepted (answer (rule_outcome s values room)).read (event_bytes (rule_outcome s values room)) (value_bytes (rule_outcome s values room)) (answer (rule_outcome s values room)).steps
  ruling_accepted h = rule_accepted _ _ _ _ (acceptance_is 20 (length s) room 0 (rule_outcome s values room) rule_allowed h)
