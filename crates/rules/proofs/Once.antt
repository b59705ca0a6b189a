-- What section files can never do, since ids rise within a list: an event by rule (a), or two events of a vector in one step.
-- Assumes nothing.
use Rattle.std.specs.Prelude.{◌≡◌, refl, Bool, ◌&&◌, List, [], ◌∷◌, ◌++◌, ◌≢◌, ℕ, suc, ◌-◌, ◌≤◌, ◌<◌, get_or, eqb}
use Rattle.std.proofs.Math.Path.{sym}
use Rattle.std.proofs.Common.{◌∙◌, append_assoc, arith, eqb-true}
use Rattle.std.proofs.Math.Bool.{true, false}
use Rattle.std.proofs.lemmas.Bool.{false≢true}
use Rattle.slices.specs.Choice.{cond_ind}
use Rattle.rules.specs.Vector.{Write, Op, start, put, stop, rewritten, complete, ended, over, Vec, all, any, fresh, cleared, fires, clashes, stored, act, history}
use Rattle.rules.specs.Vector.Laws.{Wide}
use Rattle.rules.proofs.Vector.Laws.{by_test, never_both, not_true_is_false, and_true_both, any_clear, any_none, all_mark, get_d_set, wide_fresh, wide_cleared, wide_stored, cleared_any, clashed}
use Rattle.rules.specs.Gather.{Tables, width, Good, Act, time, write, step_end, elem, bit_write, told}
use Rattle.rules.proofs.Gather.Own.{told_nil, told_time, told_write, told_stop, told_inside, own_history}
use Rattle.rules.specs.Owned.{Inside}
use Rattle.rules.proofs.Owned.Laws.{inside_start, inside_put, inside_stop}
use Rattle.rules.specs.Steps.Owned.{history_of}
use Rattle.rules.specs.Once.{Once, Rising, Single}

-- the bits that were written stand above those of higher ids
Above : Tables → ℕ → ℕ → List ℕ → Type 0
Above t v n seen = (b : ℕ) → elem b seen ≡ true → t.max v - n ≤ b

above_later : (t : Tables) (v n i : ℕ) (seen : List ℕ) → n < i → Above t v n seen → Above t v i seen
unfolding Above
above_later t v n i seen l a b e = let k : t.max v - n ≤ b = a b e in omega arith

above_more : (t : Tables) (v n i : ℕ) (seen : List ℕ) → n < i → Above t v n seen → Above t v i ((t.max v - i) ∷ seen)
unfolding Above elem
above_more t v n i seen l a b e = by_test (eqb b (t.max v - i)) (λ q. let p : b ≡ t.max v - i = eqb-true _ _ q in omega arith) (λ q. above_later t v n i seen l a b (rw q at e))

above_new : (t : Tables) (v n i : ℕ) (seen : List ℕ) → n < i → i ≤ t.max v → Above t v n seen → elem (t.max v - i) seen ≡ false
unfolding Above
above_new t v n i seen l h a = by_test (elem (t.max v - i) seen) (λ e. let k : t.max v - n ≤ t.max v - i = a (t.max v - i) e in absurd (omega arith)) (λ e. e)

above_nil : (t : Tables) (v n : ℕ) → Above t v n []
unfolding Above elem
above_nil t v n b e = absurd (false≢true e)

rising_from : (t : Tables) → Good t → (v n : ℕ) (seen : List ℕ) (acts : List Act) → Rising n acts → Above t v n seen → Once seen (told t v acts)
unfolding Rising Once Good bit_write
rising_from t g v n seen [] r a = rw told_nil tt
rising_from t g v n seen (time u ∷ acts) r a = rw told_time (rising_from t g v n seen acts r a)
rising_from t g v n seen (write i x p ∷ acts) r a =
    rw told_write
    (cond_ind (eqb (t.vector i) (suc v)) _ _ (Once seen)
    (λ q. (above_new t v n i seen r.0 (g i v (eqb-true _ _ q)).1 a, rising_from t g v i ((t.max v - i) ∷ seen) acts r.1 (above_more t v n i seen r.0 a)))
    (λ q. rising_from t g v i seen acts r.1 (above_later t v n i seen r.0 a)))
rising_from t g v n seen (step_end ∷ acts) r a = rw told_stop (rising_from t g v 0 [] acts r (above_nil t v 0))

-- so in every step that rises, no vector has a bit written twice
pub rising_once : (t : Tables) → Good t → (v : ℕ) (acts : List Act) → Rising 0 acts → Once [] (told t v acts)
rising_once t g v acts r = rising_from t g v 0 [] acts r (above_nil t v 0)

-- ---- no event by rule (a), and at most one in a step

-- the marks are of seen bits, and after an event in this step every bit was seen
record Fits (w : ℕ) (seen : List ℕ) (had : Bool) (v : Vec) : Type 0 where
  wide : Wide w v
  marked : (b : ℕ) → get_or v.marks b false ≡ true → elem b seen ≡ true
  used : had ≡ true → ((b : ℕ) → b < w → elem b seen ≡ true) × (any v.marks ≡ false)

fits_new : (w : ℕ) (v : Vec) → Wide w v → any v.marks ≡ false → Fits w [] false v
fits_new w v l n = record { wide = l; marked = λ b h. absurd (never_both h (any_none v.marks b n)); used = λ h. absurd (false≢true h) }

complete≢rewritten : complete ≢ rewritten
complete≢rewritten e = let z : ◌≡◌ {A = ℕ} 0 1 = cc in omega arith

ended≢rewritten : ended ≢ rewritten
ended≢rewritten e = let z : ◌≡◌ {A = ℕ} 0 1 = cc in omega arith

module _ (w : ℕ) (seen : List ℕ) (had : Bool) (v : Vec) (f : Fits w seen had v) where
  module _ (x : Write) (l : x.bit < w) (new : elem x.bit seen ≡ false) where
    fresh_bit : clashes v x ≡ false
    fresh_bit = not_true_is_false (λ h. never_both (f.marked x.bit (clashed v x h).0) new)

    first : had ≡ false
    first = not_true_is_false (λ h. never_both ((f.used h).0 x.bit l) new)

    stored_seen : (b : ℕ) → get_or (stored v x).marks b false ≡ true → elem b (x.bit ∷ seen) ≡ true
    unfolding stored elem Wide
    stored_seen b h =
        let e = sym (get_d_set v.marks x.bit b true false (omega (arith, f.wide.1))) ∙ h in
        by_test (eqb b x.bit) (λ q. rw q) (λ q. rw q (f.marked b (rw q at e)))

    after_put : (early : Bool) (ops : List Op) (t : Bool) → (early && all (stored v x).marks) ≡ t
        → ((had' : Bool) (v' : Vec) → Fits w (x.bit ∷ seen) had' v' → Single had' (history early v' ops))
        → Single had ((fires t complete (stored v x)).0 ++ history early (fires t complete (stored v x)).1 ops)
    unfolding fires Single Wide
    after_put early ops true h rec =
        let wide' = wide_stored w v x f.wide in
        let none = cleared_any (stored v x) in (
          first,
          complete≢rewritten,
          rec true (cleared (stored v x)) (record {
            wide = wide_cleared w (stored v x) wide';
            marked = λ b q. absurd (never_both q (any_none _ b none));
            used = λ q. ((λ b k. stored_seen b (all_mark (stored v x).marks b (and_true_both early _ h).1 (omega (arith, wide'.1)))), none);
          }),
        )
    after_put early ops false h rec = rec had (stored v x) (record {
      wide = wide_stored w v x f.wide;
      marked = stored_seen;
      used = λ q. absurd (never_both q first);
    })

  after_stop : (early : Bool) (ops : List Op) (t : Bool) → any v.marks ≡ t
      → ((v' : Vec) → Fits w [] false v' → Single false (history early v' ops))
      → Single had ((fires t ended v).0 ++ over ∷ history early (fires t ended v).1 ops)
  unfolding fires Single
  after_stop early ops true h rec = (
    not_true_is_false (λ q. never_both h (f.used q).1),
    ended≢rewritten,
    rec (cleared v) (fits_new w (cleared v) (wide_cleared w v f.wide) (cleared_any v)),
  )
  after_stop early ops false h rec = rec v (fits_new w v f.wide h)

single_from : (early : Bool) (w : ℕ) (seen : List ℕ) (had : Bool) (v : Vec) (ops : List Op) → Inside w ops → Once seen ops → Fits w seen had v → Single had (history early v ops)
unfolding Once Single history act fires
single_from early w seen had v [] i o f = tt
single_from early w seen had v (start t ∷ ops) i o f = single_from early w seen had v ops ((inside_start w t ops).0 i) o f
single_from early w seen had v (put x ∷ ops) i o f =
    let (l, rest) = (inside_put w x ops).0 i in
    rw (append_assoc, fresh_bit w seen had v f x l o.0)
    (after_put w seen had v f x l o.0 early ops _ refl (λ had' v' f'. single_from early w (x.bit ∷ seen) had' v' ops rest o.1 f'))
single_from early w seen had v (stop ∷ ops) i o f =
    rw append_assoc (after_stop w seen had v f early ops _ refl (λ v' f'. single_from early w [] false v' ops ((inside_stop w ops).0 i) o f'))

pub never_rewritten : (early : Bool) (w : ℕ) (ops : List Op) → Inside w ops → Once [] ops → Single false (history early (fresh w) ops)
unfolding fresh
never_rewritten early w ops i o = single_from early w [] false (fresh w) ops i o (fits_new w (fresh w) (wide_fresh w) (any_clear w))

-- of acts whose ids rise in every step: each vector has at most one event in a step, and none by rule (a)
pub rising_single : (early : ℕ → Bool) (t : Tables) → Good t → (acts : List Act) → Rising 0 acts → (v : ℕ) → Single false (history_of early t acts v)
rising_single early t g acts r v = rw own_history (never_rewritten (early (width t v)) (width t v) (told t v acts) (told_inside t g v acts) (rising_once t g v acts r))
