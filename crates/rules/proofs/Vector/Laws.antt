-- Laws of one vector: its marks, its events, and what an operation does in each of its branches.
-- Assumes nothing.
use Rattle.std.specs.Prelude.{◌≡◌, refl, ◌≢◌, Bool, true, false, not, cond, ◌&&◌, List, [], ◌∷◌, ◌++◌, ℕ, zero, suc, ◌<◌, length, get_or, set, replicate, eqb}
use Rattle.std.proofs.Common.{sym, ap, ◌∙◌, true≢false, append_assoc, arith, length-set, get_or-set_same, get_or-set_other, eqb-true, eq-eqb, ne_eqb}
use Rattle.std.proofs.lemmas.Bool.{false≢true, eqb-false}
use Rattle.std.proofs.lemmas.List.{length-replicate}
use Rattle.rules.specs.Vector.{Write, Op, start, put, stop, Cause, rewritten, complete, ended, began, wrote, shown, over, Vec, all, any, fresh, cleared, fires, clashes, stored, act, history}
use Rattle.rules.specs.Vector.Laws.{Wide, vec_after}

-- ---- tests

-- whichever way a test comes out
pub by_test : {P : Type 0} (b : Bool) → (b ≡ true → P) → (b ≡ false → P) → P
by_test true f g = f refl
by_test false f g = g refl

pub never_both : {b : Bool} → b ≡ true → b ≡ false → ⊥
never_both p q = true≢false (sym p ∙ q)

pub not_true_is_false : {b : Bool} → (b ≡ true → ⊥) → b ≡ false
not_true_is_false {b} n = by_test b (λ h. absurd (n h)) (λ h. h)

pub and_true_both : (a b : Bool) → (a && b) ≡ true → (a ≡ true) × (b ≡ true)
and_true_both true b h = (refl, h)
and_true_both false b h = absurd (false≢true h)

-- ---- marks

pub get_d_clear : (n b : ℕ) → get_or (replicate n false) b false ≡ false
get_d_clear zero b = refl
get_d_clear (suc n) zero = refl
get_d_clear (suc n) (suc b) = get_d_clear n b

pub any_clear : (n : ℕ) → any (replicate n false) ≡ false
unfolding any
any_clear zero = refl
any_clear (suc n) = any_clear n

-- some mark is set exactly where `any` says so
pub any_mark : (ms : List Bool) → any ms ≡ true → (b : ℕ) × (b < length ms) × (get_or ms b false ≡ true)
unfolding any
any_mark [] h = absurd (false≢true h)
any_mark (true ∷ ms) h = (0, omega arith, refl)
any_mark (false ∷ ms) h = let r = any_mark ms h in (suc r.0, omega arith, r.2)

pub any_none : (ms : List Bool) (b : ℕ) → any ms ≡ false → get_or ms b false ≡ false
unfolding any
any_none [] b h = refl
any_none (true ∷ ms) b h = absurd (true≢false h)
any_none (false ∷ ms) zero h = refl
any_none (false ∷ ms) (suc b) h = any_none ms b h

pub mark_any : (ms : List Bool) (b : ℕ) → get_or ms b false ≡ true → any ms ≡ true
mark_any ms b h = by_test (any ms) (λ a. a) (λ n. absurd (never_both h (any_none ms b n)))

-- every mark is set exactly where `all` says so
pub all_mark : (ms : List Bool) (b : ℕ) → all ms ≡ true → b < length ms → get_or ms b false ≡ true
unfolding all
all_mark [] b h l = absurd (omega arith)
all_mark (true ∷ ms) zero h l = refl
all_mark (true ∷ ms) (suc b) h l = all_mark ms b h (omega arith)
all_mark (false ∷ ms) b h l = absurd (false≢true h)

pub marks_all : (ms : List Bool) → ((b : ℕ) → b < length ms → get_or ms b false ≡ true) → all ms ≡ true
unfolding all
marks_all [] f = refl
marks_all (true ∷ ms) f = marks_all ms (λ b l. f (suc b) (omega arith))
marks_all (false ∷ ms) f = absurd (false≢true (f 0 (omega arith)))

-- a place after one was set
pub get_d_set {ℓ} : {A : Type ℓ} (l : List A) (i b : ℕ) (a d : A) → i < length l → get_or (set l i a) b d ≡ cond (eqb b i) a (get_or l b d)
get_d_set {A = A} l i b a d h = go (eqb b i) refl
  where
    go : (t : Bool) → eqb b i ≡ t → get_or (set l i a) b d ≡ cond t a (get_or l b d)
    go true q = rw (eqb-true b i q) (get_or-set_same l i a d h)
    go false q = get_or-set_other l i b a d (eqb-false b i q)

pub wide_fresh : (w : ℕ) → Wide w (fresh w)
unfolding Wide fresh
wide_fresh w = (length-replicate w 0, length-replicate w false)

pub wide_cleared : (w : ℕ) (v : Vec) → Wide w v → Wide w (cleared v)
unfolding Wide cleared
wide_cleared w v h = (h.0, rw length-replicate h.1)

pub wide_stored : (w : ℕ) (v : Vec) (x : Write) → Wide w v → Wide w (stored v x)
unfolding Wide stored
wide_stored w v x h = (rw length-set h.0, rw length-set h.1)

pub wide_fires : (w : ℕ) (t : Bool) (c : Cause) (v : Vec) → Wide w v → Wide w (fires t c v).1
unfolding fires
wide_fires w true c v h = wide_cleared w v h
wide_fires w false c v h = h

pub wide_act : (w : ℕ) (early : Bool) (v : Vec) (op : Op) → Wide w v → Wide w (act early v op).1
unfolding act
wide_act w early v (start t) h = h
wide_act w early v (put x) h = wide_fires w _ complete _ (wide_stored w _ x (wide_fires w _ rewritten v h))
wide_act w early v stop h = wide_fires w _ ended v h

-- ---- events

pub fires_yes : (c : Cause) (v : Vec) → fires true c v ≡ (shown c v.vals ∷ [], cleared v)
unfolding fires
fires_yes c v = refl

pub fires_no : (c : Cause) (v : Vec) → fires false c v ≡ ([], v)
unfolding fires
fires_no c v = refl

pub cleared_any : (v : Vec) → any (cleared v).marks ≡ false
unfolding cleared
cleared_any v = any_clear (length v.marks)

-- clearing a vector without marks leaves it as it is
unmarked : (ms : List Bool) → any ms ≡ false → replicate (length ms) false ≡ ms
unfolding any
unmarked [] h = refl
unmarked (true ∷ ms) h = absurd (true≢false h)
unmarked (false ∷ ms) h = ap (λ l. false ∷ l) (unmarked ms h)

pub cleared_unmarked : (v : Vec) → any v.marks ≡ false → cleared v ≡ v
unfolding cleared
cleared_unmarked v h = ap (λ ms. record { vals = v.vals; marks = ms }) (unmarked v.marks h)

pub cleared_twice : (v : Vec) → cleared (cleared v) ≡ cleared v
cleared_twice v = cleared_unmarked (cleared v) (cleared_any v)

-- so a step's end clears a vector whether it made an event or not
pub end_clears : (c : Cause) (v : Vec) → (fires (any v.marks) c v).1 ≡ cleared v
unfolding fires
end_clears c v = by_test (any v.marks) (λ h. rw h) (λ h. rw h (sym (cleared_unmarked v h)))

-- after an event the rule that made it no longer acts
pub fired_any : (t : Bool) (c : Cause) (v : Vec) → any v.marks ≡ t → any (fires t c v).1.marks ≡ false
unfolding fires
fired_any true c v h = cleared_any v
fired_any false c v h = h

pub cleared_clash : (v : Vec) (x : Write) → clashes (cleared v) x ≡ false
unfolding clashes cleared
cleared_clash v x = rw (get_d_clear (length v.marks) x.bit) refl

pub fired_clash : (t : Bool) (c : Cause) (v : Vec) (x : Write) → clashes v x ≡ t → clashes (fires t c v).1 x ≡ false
unfolding fires
fired_clash true c v x h = cleared_clash v x
fired_clash false c v x h = h

-- ---- rule (a)'s test, in words

pub clashed : (v : Vec) (x : Write) → clashes v x ≡ true → (get_or v.marks x.bit false ≡ true) × (x.value ≢ get_or v.vals x.bit 0)
unfolding clashes
clashed v x h = let r = and_true_both (get_or v.marks x.bit false) (not (eqb x.value (get_or v.vals x.bit 0))) h in (r.0, λ e. never_both r.1 (ap not (eq-eqb _ _ e)))

pub clashing : (v : Vec) (x : Write) → get_or v.marks x.bit false ≡ true → x.value ≢ get_or v.vals x.bit 0 → clashes v x ≡ true
unfolding clashes
clashing v x m d = rw (m, ne_eqb x.value (get_or v.vals x.bit 0) d)

-- a marked bit that does not clash keeps its value
pub unclashed : (v : Vec) (x : Write) → clashes v x ≡ false → get_or v.marks x.bit false ≡ true → x.value ≡ get_or v.vals x.bit 0
unclashed v x h m = by_test (eqb x.value (get_or v.vals x.bit 0)) (eqb-true _ _) (λ d. absurd (never_both (clashing v x m (eqb-false _ _ d)) h))

-- ---- a step's beginning

pub start_plain : (early : Bool) (v : Vec) (t : ℕ) → act early v (start t) ≡ (began t ∷ [], v)
unfolding act
start_plain early v t = refl

-- ---- a write, one law for each way through (a), (b), (c)

module _ (early : Bool) (v : Vec) (x : Write) where
  pub put_plain : clashes v x ≡ false → (early && all (stored v x).marks) ≡ false → act early v (put x) ≡ (wrote x ∷ [], stored v x)
  unfolding act fires
  put_plain a c = rw (a, c)

  pub put_complete : clashes v x ≡ false → (early && all (stored v x).marks) ≡ true
      → act early v (put x) ≡ (wrote x ∷ shown complete (stored v x).vals ∷ [], cleared (stored v x))
  unfolding act fires
  put_complete a c = rw (a, c)

  pub put_rewritten : clashes v x ≡ true → (early && all (stored (cleared v) x).marks) ≡ false
      → act early v (put x) ≡ (shown rewritten v.vals ∷ wrote x ∷ [], stored (cleared v) x)
  unfolding act fires
  put_rewritten a c = rw (a, c)

  pub put_both : clashes v x ≡ true → (early && all (stored (cleared v) x).marks) ≡ true
      → act early v (put x) ≡ (shown rewritten v.vals ∷ wrote x ∷ shown complete (stored (cleared v) x).vals ∷ [], cleared (stored (cleared v) x))
  unfolding act fires
  put_both a c = rw (a, c)

-- ---- a step's end

pub stop_marked : (early : Bool) (v : Vec) → any v.marks ≡ true → act early v stop ≡ (shown ended v.vals ∷ over ∷ [], cleared v)
unfolding act fires
stop_marked early v h = rw h

pub stop_unmarked : (early : Bool) (v : Vec) → any v.marks ≡ false → act early v stop ≡ (over ∷ [], v)
unfolding act fires
stop_unmarked early v h = rw h

pub history_append : (early : Bool) (v : Vec) (a b : List Op) → history early v (a ++ b) ≡ history early v a ++ history early (vec_after early v a) b
unfolding history vec_after
history_append early v [] b = refl
history_append early v (op ∷ a) b = rw (history_append early (act early v op).1 a b) (sym (append_assoc (act early v op).0 _ _))

pub after_append : (early : Bool) (v : Vec) (a b : List Op) → vec_after early v (a ++ b) ≡ vec_after early (vec_after early v a) b
unfolding vec_after
after_append early v [] b = refl
after_append early v (op ∷ a) b = after_append early (act early v op).1 a b

pub wide_after : (w : ℕ) (early : Bool) (v : Vec) (ops : List Op) → Wide w v → Wide w (vec_after early v ops)
unfolding vec_after
wide_after w early v [] h = h
wide_after w early v (op ∷ ops) h = wide_after w early (act early v op).1 ops (wide_act w early v op h)
