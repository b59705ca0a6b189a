-- Each number of a list once, where it stands first: the order in which vectors are listed.
-- Assumes nothing.
use Rattle.std.specs.Prelude.{◌≡◌, refl, ◌≢◌, true, false, ◌&&◌, not, List, [], ◌∷◌, ◌++◌, ℕ, eqb}
use Rattle.std.proofs.Common.{sym, ap, ◌∙◌, append_assoc, append-nil, eqb-true, ne_eqb}
use Rattle.std.proofs.Math.Bool.{and-false, and-true, or-true, or-false}
use Rattle.std.proofs.lemmas.Bool.{eqb-false}
use Rattle.rules.proofs.Vector.Laws.{by_test, never_both}
use Rattle.rules.specs.Gather.{elem}
use Rattle.rules.proofs.Gather.Laws.{elem_append, elem_head, list_again, list_new}
use Rattle.rules.specs.Gather.Firsts.{Before, except, firsts, listing}

except_nil : (vs : List ℕ) → except [] vs ≡ vs
unfolding except elem
except_nil [] = refl
except_nil (v ∷ vs) = ap (λ l. v ∷ l) (except_nil vs)

-- taking away one after the other is taking away both
except_more : (us ws vs : List ℕ) → except us (except ws vs) ≡ except (us ++ ws) vs
unfolding except
except_more us ws [] = refl
except_more us ws (v ∷ vs) =
    let rest = except_more us ws vs in
    rw (elem_append v us ws)
    (by_test (elem v ws) (λ b. rw (b, or-true (elem v us)) rest) (λ b. rw (b, or-false (elem v us)) (by_test (elem v us) (λ a. rw a rest) (λ a. rw a (ap (λ l. v ∷ l) rest)))))

-- one that is taken away already makes no difference
except_again : (us : List ℕ) (v : ℕ) (vs : List ℕ) → elem v us ≡ true → except (us ++ v ∷ []) vs ≡ except us vs
unfolding except elem
except_again us v [] h = refl
except_again us v (u ∷ vs) h =
    let rest = except_again us v vs h in
    let same : elem u (us ++ v ∷ []) ≡ elem u us =
    elem_append u us (v ∷ []) ∙ by_test (eqb u v) (λ q. let e : elem u us ≡ true = rw (eqb-true u v q) h in rw (q, e)) (λ q. rw q (or-false (elem u us))) in
    rw same (by_test (elem u us) (λ a. rw a rest) (λ a. rw a (ap (λ l. u ∷ l) rest)))

elem_except : (us vs : List ℕ) (v : ℕ) → elem v (except us vs) ≡ (elem v vs && not (elem v us))
unfolding except elem
elem_except us [] v = refl
elem_except us (u ∷ vs) v =
    let rest = elem_except us vs v in
    by_test (eqb v u)
    (λ q. rw (q, eqb-true v u q) (by_test (elem u us) (λ h. rw h (elem_except us vs u ∙ rw h (and-false (elem u vs)))) (λ h. rw h (elem_head u (except us vs)))))
    (λ q. rw q (by_test (elem u us) (λ h. rw h rest) (λ h. rw h (rw q rest))))

-- no number is left out, and none comes in
pub firsts_elem : (vs : List ℕ) (v : ℕ) → elem v (firsts vs) ≡ elem v vs
unfolding firsts elem
firsts_elem [] v = refl
firsts_elem (u ∷ vs) v =
    by_test (eqb v u) (λ q. rw q) (λ q. rw q (elem_except (u ∷ []) (firsts vs) v ∙ rw (firsts_elem vs v, q) (and-true (elem v vs))))

except_append : (us a b : List ℕ) → except us (a ++ b) ≡ except us a ++ except us b
unfolding except
except_append us [] b = refl
except_append us (v ∷ a) b = by_test (elem v us) (λ h. rw h (except_append us a b)) (λ h. rw h (ap (λ l. v ∷ l) (except_append us a b)))

before_except : (h u v : ℕ) (l : List ℕ) → u ≢ h → v ≢ h → Before u v l → Before u v (h ∷ except (h ∷ []) l)
unfolding except elem
before_except h u v l n m (x, y, e, i) = (
  h ∷ except (h ∷ []) x,
  except (h ∷ []) y,
  ap (λ k. h ∷ k) (ap (except (h ∷ [])) e ∙ except_append (h ∷ []) x (u ∷ y) ∙ rw (ne_eqb u h n)),
  elem_except (h ∷ []) y v ∙ rw (i, ne_eqb v h m),
)

not_head : (v u : ℕ) (us : List ℕ) → elem v (u ∷ us) ≡ false → (v ≢ u) × (elem v us ≡ false)
unfolding elem
not_head v u us h = by_test (eqb v u) (λ q. absurd (never_both (rw q) h)) (λ q. (eqb-false v u q, rw q at h))

-- of two vectors the one whose first write comes first stands first
pub firsts_order : (a b : List ℕ) (u v : ℕ) → elem u a ≡ false → elem v a ≡ false → v ≢ u → elem v b ≡ true → Before u v (firsts (a ++ u ∷ b))
unfolding firsts elem
firsts_order [] b u v p q n i = ([], except (u ∷ []) (firsts b), refl, elem_except (u ∷ []) (firsts b) v ∙ rw (firsts_elem b v, i, ne_eqb v u n))
firsts_order (h ∷ a) b u v p q n i =
    let (nu, pa) = not_head u h a p in
    let (nv, qa) = not_head v h a q in
    before_except h u v (firsts (a ++ u ∷ b)) nu nv (firsts_order a b u v pa qa n i)

listing_firsts : (us vs : List ℕ) → listing us vs ≡ us ++ except us (firsts vs)
unfolding listing firsts except
listing_firsts us [] = sym (append-nil us)
listing_firsts us (v ∷ vs) =
    by_test (elem v us)
    (λ h. rw (list_again v us h, h) (listing_firsts us vs ∙ ap (λ l. us ++ l) (sym (except_more us (v ∷ []) (firsts vs) ∙ except_again us v (firsts vs) h))))
    (λ h. rw (list_new v us h, h) (listing_firsts (us ++ v ∷ []) vs ∙ append_assoc us (v ∷ []) _ ∙ ap (λ l. us ++ v ∷ l) (sym (except_more us (v ∷ []) (firsts vs)))))

-- .. from none on
pub listing_all : (vs : List ℕ) → listing [] vs ≡ firsts vs
listing_all vs = listing_firsts [] vs ∙ except_nil (firsts vs)
