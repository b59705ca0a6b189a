-- Demand 3 sentence by sentence, of one vector's history `h`, read off `Owned`.
-- An event owns a write where it is the first event after it: `Waits x a` says that no event followed the write x in `a`.
-- Assumes nothing.
use Rattle.std.specs.Prelude.{◌≡◌, refl, Bool, ℕ, ◌<◌, length, get_or, replicate}
use Rattle.std.proofs.Math.Path.{sym}
use Rattle.std.proofs.Common.{◌∙◌}
use Rattle.std.proofs.Math.Option.{none, some}
use mathlib.Core.List.{List, [], ◌∷◌, ◌++◌, append_assoc}
use Rattle.std.proofs.lemmas.List.{get_or-replicate}
use Rattle.rules.specs.Vector.{Write, Cause, rewritten, complete, ended, Item, wrote, shown}
use Rattle.rules.specs.History.{is_event, writes_bit, Without, since, last_shown, writes, heard}
use Rattle.rules.specs.History.Laws.{Waits}
use Rattle.rules.proofs.History.Laws.{since_append, last_shown_append, last_shown_quiet, latest_quiet, since_waits, since_some}
use Rattle.rules.specs.Owned.{latest, value_or, Allowed, by_rewrite, by_completion, by_end, Owner, Owned, Inside}
use Rattle.rules.proofs.Owned.Latest.{latest_nil, latest_here, latest_in, found_some, found_not_none, value_none, value_some}
use Rattle.rules.specs.Owned.Laws.{EventFirst}
use Rattle.rules.proofs.Owned.Laws.{at_event, after_write, explained, inside_heard}
use Rattle.rules.specs.Literal.{ByCompletion, ByEnd, ByRewrite}

a_rule : (early : Bool) (w : ℕ) (a b : List Item) → Allowed early w (since [] a) rewritten b → ByRewrite a b
a_rule early w a _ (by_rewrite {x = x} {y = y} {next = next} e d) = let (m, p) = latest_in x.bit (since [] a) y e in (x, next, y, refl, (since_waits y a).0 m, p, d)

c_rule : (early : Bool) (w : ℕ) (a b : List Item) → Allowed early w (since [] a) complete b → ByCompletion early w a
c_rule early w a b (by_completion e f) = (e, λ k l. let (x, p) = found_some _ (found_not_none (latest k (since [] a)) (f k l)) in let (m, q) = latest_in k (since [] a) x p in (x, (since_waits x a).0 m, q))

end_rule : (early : Bool) (w : ℕ) (a b : List Item) → Allowed early w (since [] a) ended b → ByEnd b
end_rule early w a _ (by_end {next = next}) = (next, refl)

module _ (early : Bool) (w : ℕ) (h : List Item) (o : Owned early w (replicate w 0) [] h) (i : Inside w (heard h)) where
  owner_at : (a : List Item) (c : Cause) (l : List ℕ) (b : List Item) → h ≡ a ++ shown c l ∷ b → Owner early w (last_shown (replicate w 0) a) (since [] a) c l b
  owner_at a c l b e = at_event early w (replicate w 0) [] a c l b (rw e at o)

  -- every write has a first event after it, before its step ends
  pub first_event : (a : List Item) (x : Write) (b : List Item) → h ≡ a ++ wrote x ∷ b → EventFirst b
  first_event a x b e = after_write early w (replicate w 0) [] a x b (rw e at o)

  -- every event owns a write
  pub owns_some : (a : List Item) (c : Cause) (l : List ℕ) (b : List Item) → h ≡ a ++ shown c l ∷ b → (x : Write) × Waits x a
  owns_some a c l b e = since_some a (owner_at a c l b e).owns

  -- .. and no two values of one bit
  pub one_value : (a : List Item) (c : Cause) (l : List ℕ) (b : List Item) → h ≡ a ++ shown c l ∷ b → (x y : Write) → Waits x a → Waits y a → x.bit ≡ y.bit → x.value ≡ y.value
  one_value a c l b e x y p q = (owner_at a c l b e).agree x y ((since_waits x a).1 p) ((since_waits y a).1 q)

  pub shows_all : (a : List Item) (c : Cause) (l : List ℕ) (b : List Item) → h ≡ a ++ shown c l ∷ b → length l ≡ w
  shows_all a c l b e = (owner_at a c l b e).wide

  -- a bit shows its last write that the event owns
  pub shows_last : (a : List Item) (x : Write) (m : List Item) (c : Cause) (l : List ℕ) (b : List Item) → h ≡ a ++ wrote x ∷ (m ++ shown c l ∷ b)
      → Without is_event m → Without (writes_bit x.bit) m → get_or l x.bit 0 ≡ x.value
  unfolding since
  shows_last a x m c l b e q n =
      let p : h ≡ (a ++ wrote x ∷ m) ++ shown c l ∷ b = e ∙ sym (append_assoc a (wrote x ∷ m) (shown c l ∷ b)) in
      let inside : x.bit < w = inside_heard w a x (m ++ shown c l ∷ b) (rw e at i) in
      let last : latest x.bit (since [] (a ++ wrote x ∷ m)) ≡ some x = rw (since_append [] a (wrote x ∷ m)) (latest_quiet x.bit (x ∷ since [] a) m q n ∙ latest_here x.bit x (since [] a) refl) in
      (owner_at (a ++ wrote x ∷ m) c l b p).shows x.bit inside ∙ rw last (value_some _ x)

  -- .. else what the previous event showed
  pub shows_previous : (a : List Item) (d : Cause) (u : List ℕ) (m : List Item) (c : Cause) (l : List ℕ) (b : List Item) → h ≡ a ++ shown d u ∷ (m ++ shown c l ∷ b)
      → Without is_event m → (k : ℕ) → k < w → Without (writes_bit k) m → get_or l k 0 ≡ get_or u k 0
  unfolding since last_shown
  shows_previous a d u m c l b e q k s n =
      let p : h ≡ (a ++ shown d u ∷ m) ++ shown c l ∷ b = e ∙ sym (append_assoc a (shown d u ∷ m) (shown c l ∷ b)) in
      let no_write : latest k (since [] (a ++ shown d u ∷ m)) ≡ none = rw (since_append [] a (shown d u ∷ m)) (latest_quiet k [] m q n ∙ latest_nil k) in
      let showed : last_shown (replicate w 0) (a ++ shown d u ∷ m) ≡ u = rw (last_shown_append (replicate w 0) a (shown d u ∷ m)) (last_shown_quiet u m q) in
      (owner_at (a ++ shown d u ∷ m) c l b p).shows k s ∙ rw (no_write, showed) (value_none _)

  -- .. and zero before any
  pub shows_zero : (m : List Item) (c : Cause) (l : List ℕ) (b : List Item) → h ≡ m ++ shown c l ∷ b
      → Without is_event m → (k : ℕ) → k < w → Without (writes_bit k) m → get_or l k 0 ≡ 0
  shows_zero m c l b e q k s n =
      let no_write : latest k (since [] m) ≡ none = latest_quiet k [] m q n ∙ latest_nil k in
      (owner_at m c l b e).shows k s ∙ rw (no_write, last_shown_quiet (replicate w 0) m q) (value_none _ ∙ get_or-replicate w k 0 0 s)

  -- .. which together is the bit's latest write of all, and zero where there is none
  pub shows_latest : (a : List Item) (c : Cause) (l : List ℕ) (b : List Item) → h ≡ a ++ shown c l ∷ b → (k : ℕ) → k < w → get_or l k 0 ≡ value_or 0 (latest k (writes [] a))
  shows_latest a c l b e k s = explained early w a c l b k s (rw e at o)

  -- an event is made before the step's end only by the two early rules
  pub made_by_a : (a : List Item) (l : List ℕ) (b : List Item) → h ≡ a ++ shown rewritten l ∷ b → ByRewrite a b
  made_by_a a l b e = a_rule early w a b (owner_at a rewritten l b e).rule

  pub made_by_c : (a : List Item) (l : List ℕ) (b : List Item) → h ≡ a ++ shown complete l ∷ b → ByCompletion early w a
  made_by_c a l b e = c_rule early w a b (owner_at a complete l b e).rule

  pub made_at_end : (a : List Item) (l : List ℕ) (b : List Item) → h ≡ a ++ shown ended l ∷ b → ByEnd b
  made_at_end a l b e = end_rule early w a b (owner_at a ended l b e).rule
