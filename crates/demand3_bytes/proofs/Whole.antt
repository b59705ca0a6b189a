-- The records of an output are known from its bytes: a list of whole records is the only one with its bytes and labels.
-- Assumes nothing.
use Rattle.std.specs.Prelude.{ℕ, ◌+◌, ◌<◌, ◌≡◌, refl, length, get_or, take, drop}
use Rattle.std.proofs.Common.{sym, ap, ◌∙◌, arith, take_at, drop_at}
use mathlib.Core.List.{List, [], ◌∷◌, ◌++◌, cons≢nil}
use Rattle.std.proofs.Math.ListN.{get_or-append}
use Rattle.states.specs.declared.States.TheVariants.{Two, Nine}
use Rattle.records.specs.Event.{Event, time, value, real, record_of, record_bytes, event_value}
use Rattle.records.specs.Event.Laws.{length_time, length_value, length_real}
use Rattle.event_streams.specs.Stream.{event_length}
use Rattle.gather.specs.Run.Rendered.{rendered}
use Rattle.demand3_bytes.specs.Statements.{Labelled, joined, labels, Whole, RecordsOf}
use Rattle.demand3_bytes.specs.Trace.{labelled, labelled_from}
use Rattle.demand3_bytes.proofs.Trace.{joined_rendered, labels_labelled}

same : (r q : Labelled) → r.label ≡ q.label → r.bytes ≡ q.bytes → r ≡ q
same r q e f =
    ap {B = Labelled} (λ l. record { label = l; bytes = r.bytes }) e ∙ ap {B = Labelled}
    (λ b. record { label = q.label; bytes = b }) f

-- the first record of two lists with the same bytes is the same
module _ (a b j k : List ℕ) (pa : 0 < length a) (pb : 0 < length b) (la : length a ≡ event_length (get_or a 0 0))
    (lb : length b ≡ event_length (get_or b 0 0)) (e : a ++ j ≡ b ++ k) where
  same_kind : get_or a 0 0 ≡ get_or b 0 0
  same_kind = sym (get_or-append a j 0 0 pa) ∙ (ap (λ l. get_or l 0 0) e ∙ get_or-append b k 0 0 pb)

  same_length : length b ≡ length a
  same_length = lb ∙ (ap event_length (sym same_kind) ∙ sym la)

  same_bytes : a ≡ b
  same_bytes = sym (take_at a j (length a) refl) ∙ (ap (take (length a)) e ∙ take_at b k (length a) same_length)

  same_rest : j ≡ k
  same_rest = sym (drop_at a j (length a) refl) ∙ (ap (drop (length a)) e ∙ drop_at b k (length a) same_length)

some_bytes : (a j : List ℕ) → 0 < length a → [] ≡ a ++ j → ⊥
some_bytes [] j p e = omega arith
some_bytes (x ∷ a) j p e = cons≢nil (sym e)

pub only_one : (rs qs : List Labelled) → Whole rs → Whole qs → joined rs ≡ joined qs → labels rs ≡ labels qs → rs ≡ qs
unfolding Whole joined labels
only_one [] [] w u e f = refl
only_one [] (q ∷ qs) w u e f = absurd (cons≢nil (sym f))
only_one (r ∷ rs) [] w u e f = absurd (cons≢nil f)
only_one (r ∷ rs) (q ∷ qs) w u e f =
    let g : r.label ≡ q.label = cc in
    let one : r ≡ q = same r q g (same_bytes r.bytes q.bytes (joined rs) (joined qs) w.0 u.0 w.1
    u.1 e) in
    let rest = only_one rs qs w.2 u.2
    (same_rest r.bytes q.bytes (joined rs) (joined qs) w.0 u.0 w.1 u.1 e) (cc) in
    rw (one, rest)

-- ---- the records of events

whole_one : (s : ℕ) (e : Event)
    → (0 < length (record_bytes (record_of s e))) ×
    (length (record_bytes (record_of s e)) ≡ event_length (get_or (record_bytes (record_of s e)) 0 0))
unfolding record_of record_bytes event_length
whole_one s (time u) = (omega (arith, length_time u), length_time u)
whole_one s (value v Two reference bs) =
    (omega (arith, length_value Two reference s (length bs)), length_value Two reference s (length bs))
whole_one s (value v Nine reference bs) =
    (omega (arith, length_value Nine reference s (length bs)), length_value Nine reference s (length bs))
whole_one s (real reference b) = (omega (arith, length_real reference b), length_real reference b)

whole_all : (s : ℕ) (es : List Event) → Whole (labelled_from s es)
unfolding Whole labelled_from labelled
whole_all s [] = tt
whole_all s (e ∷ es) = ((whole_one s e).0, (whole_one s e).1, whole_all (s + length (event_value e)) es)

module _ (output : List ℕ) (es : List Event) (e : output ≡ rendered 0 es) where
  pub has_records : RecordsOf output es (labelled_from 0 es)
  has_records = record { whole = whole_all 0 es; bytes = joined_rendered 0 es ∙ sym e; labelled = labels_labelled 0 es }

  pub records_are : (rs : List Labelled) → RecordsOf output es rs → rs ≡ labelled_from 0 es
  records_are rs r =
      only_one rs (labelled_from 0 es) r.whole (whole_all 0 es) (r.bytes ∙ (e ∙ sym (joined_rendered 0 es)))
      (r.labelled ∙ sym (labels_labelled 0 es))
