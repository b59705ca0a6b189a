-- What a vector stores and marks is what its history says: its stored values and marks track the writes since its last event.
-- Assumes nothing.
use Rattle.std.specs.Prelude.{◌≡◌, ◌≢◌, ◌⊎◌, Bool, ℕ, ◌<◌, length, get_or, replicate, eqb}
use Rattle.std.proofs.Math.Path.{refl, sym}
use Rattle.std.proofs.Common.{ap, ◌∙◌, inl, inr, arith, eqb-true}
use Rattle.std.proofs.Math.Bool.{true, false, cond, false≢true}
use Rattle.std.proofs.Math.Option.{some}
use mathlib.Core.List.Memᴰ
use mathlib.Core.List.{List, [], ◌∷◌, Memᴰ}
use Rattle.std.proofs.Math.ListN.{length-set, length-replicate}
use Rattle.std.proofs.lemmas.Bool.{eqb-false}
use Rattle.rules.specs.Vector.{Write, Op, start, put, stop, Cause, rewritten, complete, ended, Vec, any, fresh, cleared, fires, clashes, stored, act, history}
use Rattle.rules.specs.Vector.Laws.{vec_after}
use Rattle.rules.proofs.Vector.Laws.{never_both, get_d_clear, any_mark, any_none, get_d_set, unclashed, fired_clash}
use Rattle.rules.specs.History.{since, last_shown}
use Rattle.rules.proofs.History.Laws.{since_append, last_shown_append}
use Rattle.rules.specs.Owned.{latest, value_or, Inside}
use Rattle.rules.specs.Owned.Latest.{found}
use Rattle.rules.proofs.Owned.Latest.{found_not_none, latest_exists}
use Rattle.rules.specs.Owned.Tracks.{Tracks}

pub tracks_fresh : (w : ℕ) → Tracks w (replicate w 0) [] (fresh w)
unfolding fresh latest found value_or
tracks_fresh w = record {
  vals_wide = length-replicate w 0;
  marks_wide = length-replicate w false;
  value_is = λ b l. refl;
  mark_is = λ b l. get_d_clear w b;
  same = λ x m. absurd (Memᴰ.not-nil m);
  inside = λ x m. absurd (Memᴰ.not-nil m);
}

module _ (w : ℕ) (before : List ℕ) (waiting : List Write) (v : Vec) (tr : Tracks w before waiting v) where
  -- a bit is marked exactly where a write of it waits
  pub waits_marked : (x : Write) → Memᴰ x waiting → get_or v.marks x.bit false ≡ true
  waits_marked x m = tr.mark_is x.bit (tr.inside x m) ∙ found_not_none _ (latest_exists x.bit waiting x m refl)

  pub marked_waits : (b : ℕ) → b < w → get_or v.marks b false ≡ true → waiting ≢ []
  unfolding latest found
  marked_waits b l h e = false≢true (ap (λ ws. found (latest b ws)) (sym e) ∙ sym (tr.mark_is b l) ∙ h)

  -- a vector has marks exactly where a write waits
  pub none_waits : any v.marks ≡ false → waiting ≡ []
  none_waits h = go waiting refl
    where
      go : (ws : List Write) → waiting ≡ ws → waiting ≡ []
      go [] e = e
      go (x ∷ ws) e = absurd (never_both (waits_marked x (rw e (Memᴰ.head refl))) (any_none v.marks x.bit h))

  pub some_waits : any v.marks ≡ true → waiting ≢ []
  some_waits h = let (b, l, m) = any_mark v.marks h in marked_waits b (omega arith) m

  pub tracks_clear : Tracks w v.vals [] (cleared v)
  unfolding cleared latest value_or found
  tracks_clear = record {
    vals_wide = tr.vals_wide;
    marks_wide = rw length-replicate tr.marks_wide;
    value_is = λ b l. refl;
    mark_is = λ b l. get_d_clear (length v.marks) b;
    same = λ x m. absurd (Memᴰ.not-nil m);
    inside = λ x m. absurd (Memᴰ.not-nil m);
  }

  -- a bit without a mark, or with the same value: storing it keeps the values of all waiting writes
  pub tracks_put : (x : Write) → x.bit < w → clashes v x ≡ false → Tracks w before (x ∷ waiting) (stored v x)
  unfolding stored latest value_or found
  tracks_put x l h = record {
    vals_wide = rw length-set tr.vals_wide;
    marks_wide = rw length-set tr.marks_wide;
    value_is = λ b lb. get_d_set v.vals x.bit b x.value 0 (omega arith) ∙ value b (eqb b x.bit) lb;
    mark_is = λ b lb. get_d_set v.marks x.bit b true false (omega arith) ∙ mark b (eqb b x.bit) lb;
    same = λ y m. get_d_set v.vals x.bit y.bit x.value 0 (omega arith) ∙ keep y (eqb y.bit x.bit) refl (Memᴰ.cases_cons m);
    inside = λ y m. within y (Memᴰ.cases_cons m);
  }
    where
      value : (b : ℕ) (t : Bool) → b < w → cond t x.value (get_or v.vals b 0) ≡ value_or (get_or before b 0) (cond t (some x) (latest b waiting))
      value b true lb = refl
      value b false lb = tr.value_is b lb

      mark : (b : ℕ) (t : Bool) → b < w → cond t true (get_or v.marks b false) ≡ found (cond t (some x) (latest b waiting))
      mark b true lb = refl
      mark b false lb = tr.mark_is b lb

      keep : (y : Write) (t : Bool) → eqb y.bit x.bit ≡ t → (y ≡ x) ⊎ Memᴰ y waiting → cond t x.value (get_or v.vals y.bit 0) ≡ y.value
      keep y true q (inl p) = ap (λ (z : Write). z.value) (sym p)
      keep y true q (inr m) =
          let e : y.bit ≡ x.bit = eqb-true _ _ q in
          let marked : get_or v.marks x.bit false ≡ true = rw e at (waits_marked y m) in
          unclashed v x h marked ∙ ap (λ (b : ℕ). get_or v.vals b 0) (sym e) ∙ tr.same y m
      keep y false q (inl p) = absurd (eqb-false _ _ q (ap (λ (z : Write). z.bit) p))
      keep y false q (inr m) = tr.same y m

      within : (y : Write) → (y ≡ x) ⊎ Memᴰ y waiting → y.bit < w
      within y (inl p) = rw p l
      within y (inr m) = tr.inside y m

  -- .. through an event, or none
  pub tracks_fires : (t : Bool) (c : Cause) → Tracks w (last_shown before (fires t c v).0) (since waiting (fires t c v).0) (fires t c v).1
  unfolding fires last_shown since
  tracks_fires true c = tracks_clear
  tracks_fires false c = tr

module _ (early : Bool) (w : ℕ) where
  tracks_act : (before : List ℕ) (waiting : List Write) (v : Vec) (op : Op) → Inside w (op ∷ []) → Tracks w before waiting v
      → Tracks w (last_shown before (act early v op).0) (since waiting (act early v op).0) (act early v op).1
  unfolding Inside act last_shown since
  tracks_act before waiting v (start t) i tr = tr
  tracks_act before waiting v (put x) i tr =
      let a = tracks_fires w before waiting v tr (clashes v x) rewritten in
      let b = tracks_put w _ _ _ a x i.0 (fired_clash _ rewritten v x refl) in
      rw (last_shown_append, since_append) (tracks_fires w _ _ _ b _ complete)
  tracks_act before waiting v stop i tr = rw (last_shown_append, since_append) (tracks_fires w before waiting v tr _ ended)

  tracks_from : (before : List ℕ) (waiting : List Write) (v : Vec) (ops : List Op) → Inside w ops → Tracks w before waiting v
      → Tracks w (last_shown before (history early v ops)) (since waiting (history early v ops)) (vec_after early v ops)
  unfolding Inside history act vec_after last_shown since
  tracks_from before waiting v [] i tr = tr
  tracks_from before waiting v (start t ∷ ops) i tr = tracks_from before waiting v ops i tr
  tracks_from before waiting v (put x ∷ ops) i tr = rw (last_shown_append, since_append) (tracks_from (last_shown before (act early v (put x)).0) (since waiting (act early v (put x)).0) (act early v (put x)).1 ops i.1 (tracks_act before waiting v (put x) (i.0, tt) tr))
  tracks_from before waiting v (stop ∷ ops) i tr = rw (last_shown_append, since_append) (tracks_from (last_shown before (act early v stop).0) (since waiting (act early v stop).0) (act early v stop).1 ops i (tracks_act before waiting v stop tt tr))

  -- after any operations a vector tracks its whole history
  pub tracks_after : (ops : List Op) → Inside w ops → Tracks w (last_shown (replicate w 0) (history early (fresh w) ops)) (since [] (history early (fresh w) ops)) (vec_after early (fresh w) ops)
  tracks_after ops i = tracks_from (replicate w 0) [] (fresh w) ops i (tracks_fresh w)
