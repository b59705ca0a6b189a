-- Each call has its page, and what has this page is what the call gives.
-- Assumes nothing.
use Rattle.std.specs.Prelude.{ℕ, ◌≤◌, ◌⊎◌, Bool, true, false, List, [], length}
use Rattle.std.proofs.Math.Path.{◌≡◌, refl, sym, ap}
use Rattle.std.proofs.Common.{subst, ◌∙◌, inl, inr, arith}
use Rattle.std.proofs.Math.Bool.{cond}
use Rattle.tables.specs.Lists.{Lists}
use Rattle.refusals.specs.Laws.{same_number}
use Rattle.tables.specs.Checks.{unless, and_then}
use Rattle.tables.specs.Check.{Check, Passed, Refused}
use Rattle.checks.specs.Checked.{checks_without_room, without_number}
use Rattle.values.specs.Value.{ordinary}
use Rattle.number_writer.specs.Ended as ended
use Rattle.rules.specs.Scan as scan
use Rattle.section_scan.specs.Sections.{scan_sections}
use Rattle.section_scan.specs.Sections.Stepped.{sections_number}
use Rattle.changes.specs.Changes.{scan_changes}
use Rattle.changes.specs.Changes.Steps.{changes_number}
use Rattle.encoder.specs.Rule.{Ruled, time_rule}
use Rattle.encoder.specs.Rule as rules
use Rattle.encoder.specs.Rule.Keeping.{Refusal}
use Rattle.encoder.specs.Rule.Keeping.Refusals.{rule_refuses}
use Rattle.sections_writer.specs.Writer as writer
use Rattle.read_back.specs.ReadBack as back
use Rattle.written_scans.specs.Reread.Refused.{Comes, Own, writes_as, Full, gives_as}
use Rattle.fragments.specs.Theorems.{Closes}
use Rattle.fragments.specs.Theorems.Proofs.{closes}
use Rattle.step_ends.specs.declared.Names.{Names}
use Rattle.step_ends.specs.Steps.{step_ends}
use Rattle.answers.specs.Outcome.{Outcome, refused, LeftKept, leaves_kept}
use Rattle.answers.specs.Filled.{filled}
use Rattle.entries.specs.Entries as entry
use Rattle.entries.specs.Entries.{checked, apply_time_rule}
use Rattle.entries.specs.Entries.Keeps as keeping
use Rattle.entries.specs.Written.{write_sections, read_back}
use Rattle.bench.specs.Bench as benching
use Rattle.courses.specs.Course.{Course, Ends, Faults, Told, fill}
use Rattle.courses.specs.Ruled.{ruled}
use Rattle.courses.specs.Ruled.Laws.{ended_of}
use Rattle.courses.proofs.Ruled.Laws.{ruled_fills, ruled_reads}
use Rattle.courses.specs.Written.{written}
use Rattle.courses.proofs.Written.Laws.{written_fills, written_orderly}
use Rattle.courses.specs.GivenBack.{given_back}
use Rattle.courses.proofs.GivenBack.Laws.{back_fills, given_told}
use Rattle.courses.specs.Benched.{benched}
use Rattle.courses.proofs.Benched.Laws.{benched_fills}
use Rattle.call_pages.proofs.Crowded.Proofs.{benched_crowded}
use Rattle.call_pages.specs.Exact.Proofs.{calls}
use Rattle.call_pages.proofs.Exact.Proofs.{exact, only}
use Rattle.call_pages.specs.Pages.{Shaped, rule_checks, RulePage, bench_checks, BenchPage, WritePage, BackPage}

-- ---- checks, and their numbers

checked_unless : (b : Bool) (n : ℕ) (o : Outcome) → checked (unless b n) o ≡ cond b o (refused n 0)
unfolding checked unless
checked_unless true n o = refl
checked_unless false n o = refl

checked_then : (k l : Check) (o : Outcome) → checked (and_then k l) o ≡ checked k (checked l o)
unfolding checked and_then
checked_then Passed l o = refl
checked_then (Refused n p) l o = refl

unless_low : (b : Bool) (m : ℕ) → 1 ≤ m → (n p : ℕ) → unless b m ≡ Refused n p → 1 ≤ n
unfolding unless
unless_low true m h n p e = let z : ◌≡◌ {A = ℕ} 0 1 = cc in absurd (omega arith)
unless_low false m h n p e = let z : m ≡ n = same_number e in omega arith

then_low : (k l : Check) → ((n p : ℕ) → k ≡ Refused n p → 1 ≤ n) → ((n p : ℕ) → l ≡ Refused n p → 1 ≤ n) → (n p : ℕ)
    → and_then k l ≡ Refused n p → 1 ≤ n
unfolding and_then
then_low Passed l f g n p e = g n p e
then_low (Refused m q) l f g n p e = f n p e

-- ---- the time rule

module _ (s : List ℕ) (values room : ℕ) where
  ruled_filled : (x : Ruled) → entry.ruled x ≡ filled (ended_of x)
  unfolding entry.ruled filled ended_of
  ruled_filled (rules.ruled i k) = refl
  ruled_filled (rules.refused n p) = refl

  rule_is : apply_time_rule s values room ≡ leaves_kept room (calls (rule_checks s values room) room (ruled s values))
  unfolding apply_time_rule
  rule_is =
      ap (leaves_kept room)
      (ap (λ o. cond (keeping.limits_of s values room) o (refused 1 0))
      (ruled_filled (time_rule s values room) ∙ ap filled (ruled_fills s values room))
      ∙ sym (checked_unless (keeping.limits_of s values room) 1 (filled (fill room (ruled s values) []))))

  refusal_low : (n p : ℕ) → Refusal s values room n p → 1 ≤ n
  refusal_low n p (inl o) = omega (arith, o.number)
  refusal_low n p (inr (e, o)) = omega arith

  ended_refused : (x : Ruled) (n p : ℕ) → ended_of x ≡ ended.refused n p → x ≡ rules.refused n p
  unfolding ended_of
  ended_refused (rules.ruled i k) n p e = let z : ◌≡◌ {A = ℕ} 0 1 = cc in absurd (omega arith)
  ended_refused (rules.refused m q) n p e = let a : m ≡ n = cc in let b : q ≡ p = cc in rw (a, b)

  rule_some : (n p : ℕ) → fill room (ruled s values) [] ≡ ended.refused n p → 1 ≤ n
  rule_some n p e = refusal_low n p
      (rule_refuses s values room n p (ended_refused (time_rule s values room) n p (ruled_fills s values room ∙ e)))

  -- "The time rule keeps what its Encoder would keep", and is refused at the first fault of its records
  pub rule_page : RulePage s values room (apply_time_rule s values room)
  rule_page = subst (RulePage s values room) (sym rule_is)
      (exact (rule_checks s values room) _ _ room (ruled s values) (ruled_reads s values)
      (unless_low (keeping.limits_of s values room) 1 (omega arith)) rule_some)

  pub rule_only : (x : LeftKept) → Shaped 20 (length s) room x → RulePage s values room x
      → x ≡ apply_time_rule s values room
  rule_only x d e = only (rule_checks s values room) _ _ room (ruled s values) (ruled_reads s values) 20 (length s) x
      d.answers d.output d.no_values e ∙ sym rule_is

-- ---- sections written

module _ (t : Lists) (flag : Bool) (s : List ℕ) (room : ℕ) where
  abbrev check : Check
  check = checks_without_room t (length s) room

  low : (n p : ℕ) → check ≡ Refused n p → 1 ≤ n
  low n p e = (without_number t (length s) room n p e).0

  write_is : write_sections t flag s room ≡ leaves_kept room (calls check room (written t flag s))
  unfolding write_sections
  write_is = ap (λ e. leaves_kept room (checked check (filled e))) (written_fills t flag s room)

  write_low : (n p : ℕ) → scan.Faults n p (scan_changes t s) ⊎ Own n → 1 ≤ n
  write_low n p (inl f) = omega (arith, (changes_number t s n p f).0)
  write_low n p (inr (inl e)) = omega arith
  write_low n p (inr (inr (inl e))) = omega arith
  write_low n p (inr (inr (inr e))) = omega arith

  write_some : (n p : ℕ) → fill room (written t flag s) [] ≡ ended.refused n p → 1 ≤ n
  write_some n p e = write_low n p
      (subst (λ x. Comes Own room x (scan_changes t s)) (written_fills t flag s room ∙ e) (writes_as t flag s room))

  pub write_page : WritePage t flag s room (write_sections t flag s room)
  write_page = subst (WritePage t flag s room) (sym write_is)
      (exact check _ _ room (written t flag s) (written_orderly t flag s) low write_some)

  pub write_only : (x : LeftKept) → Shaped 23 (length s) room x → WritePage t flag s room x
      → x ≡ write_sections t flag s room
  write_only x d e = only check _ _ room (written t flag s) (written_orderly t flag s) 23 (length s) x d.answers
      d.output d.no_values e ∙ sym write_is

  -- ---- .. and read back

  back_is : read_back t flag s room ≡ leaves_kept room (calls check room (given_back t flag s))
  unfolding read_back
  back_is = ap (λ e. leaves_kept room (checked check (filled e))) (back_fills t room flag s)

  back_told : Told (λ i. scan.Ends i (scan_sections t (ordinary flag) s))
      (λ n p. scan.Faults n p (scan_sections t (ordinary flag) s)) (given_back t flag s)
  unfolding given_back
  back_told = given_told t (scan_sections t (ordinary flag) s) 0

  back_low : (n p : ℕ) → scan.Faults n p (scan_sections t (ordinary flag) s) ⊎ Full n → 1 ≤ n
  back_low n p (inl f) = omega (arith, (sections_number t (ordinary flag) s n p f).0)
  back_low n p (inr e) = omega arith

  back_some : (n p : ℕ) → fill room (given_back t flag s) [] ≡ ended.refused n p → 1 ≤ n
  back_some n p e = back_low n p
      (subst (λ x. Comes Full room x (scan_sections t (ordinary flag) s)) (back_fills t room flag s ∙ e) (gives_as t room flag s))

  pub back_page : BackPage t flag s room (read_back t flag s room)
  back_page = subst (BackPage t flag s room) (sym back_is)
      (exact check _ _ room (given_back t flag s) back_told low back_some)

  pub back_only : (x : LeftKept) → Shaped 23 (length s) room x → BackPage t flag s room x → x ≡ read_back t flag s room
  back_only x d e = only check _ _ room (given_back t flag s) back_told 23 (length s) x d.answers d.output
      d.no_values e ∙ sym back_is

-- ---- the bench

module _ (events values : List ℕ) (session strobe close room : ℕ) where
  abbrev names : Names
  names = benching.named session strobe close

  abbrev course : Course
  course = benched names events values

  abbrev checks : Check
  checks = bench_checks events values session strobe close room

  bench_is : benching.bench events values session strobe close room ≡ leaves_kept room (calls checks room course)
  unfolding benching.bench benching.benched
  bench_is =
      ap (leaves_kept room)
      (ap (λ e. cond (benching.limits_of events values room)
      (cond (benching.apart session strobe close) (filled e) (refused 34 0)) (refused 1 0))
      (benched_fills names events values room)
      ∙ sym (checked_then _ _ _ ∙ checked_unless (benching.limits_of events values room) 1 _
      ∙ ap (λ o. cond (benching.limits_of events values room) o (refused 1 0))
      (checked_unless (benching.apart session strobe close) 34 _)))

  bench_low : (n p : ℕ) → checks ≡ Refused n p → 1 ≤ n
  bench_low = then_low _ _ (unless_low (benching.limits_of events values room) 1 (omega arith))
      (unless_low (benching.apart session strobe close) 34 (omega arith))

  bench_some : (n p : ℕ) → fill room course [] ≡ ended.refused n p → 1 ≤ n
  bench_some n p e =
      let c = subst (Closes (length events) room (step_ends names events values))
      (benched_fills names events values room ∙ e) (closes names events values room) in
      omega (arith, c.1)

  pub bench_page : BenchPage events values session strobe close room
      (benching.bench events values session strobe close room)
  bench_page = subst (BenchPage events values session strobe close room) (sym bench_is)
      (exact checks _ _ room course (benched_crowded names events values) bench_low bench_some)

  pub bench_only : (x : LeftKept) → Shaped 34 (length events) room x
      → BenchPage events values session strobe close room x
      → x ≡ benching.bench events values session strobe close room
  bench_only x d e = only checks _ _ room course (benched_crowded names events values) 34 (length events) x
      d.answers d.output d.no_values e ∙ sym bench_is
