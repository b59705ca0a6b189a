-- How far the preamble has been read, and what the proofs of its loop search.
-- Assumes nothing.
use Rattle.std.specs.Prelude.{◌≡◌, refl, Bool, List, [], ◌∷◌, ◌++◌, take, set, Ok}
use Rattle.std.proofs.Math.Path.{sym}
use Rattle.std.proofs.Common.{subst, ◌∙◌, add-one, take-suc-set}
use Prim.Native.Nat.{ℕ, zero, suc, ◌+◌, ◌-◌, ◌≤◌, ◌<◌}
use native.Mathlib.Omega.{arith}
use borrow.Author.Tests.{lt-ltb, le-ltb}
use Rattle.std.proofs.Math.ListN.{length, length-set}
use Rattle.std.proofs.Math.Seq.{length-take-le}
use Rattle.tables.specs.Lists.{Lists, lists, signals, vectors}
use Rattle.preamble.specs.Item.{ItemFound, Signal, Vector, Sections, Refused}
use Rattle.preamble.specs.declared.Progress.{Progress}
use Rattle.preamble.specs.Opened.{OpenedFound}
use Rattle.preamble.specs.Opened as told
use Rattle.preamble.specs.Going.{Turn}
use Rattle.std.proofs.Common.{Continue, Break}
use Rattle.preamble.specs.Preamble.{item_at, opens, refused, one_item, opening, preamble}
use Rattle.preamble.specs.Preamble.Code.{After, after, item_end, SignalComes, SignalTaken, VectorComes, VectorTaken}

pub record Sized (m : Lists) : Type 0 where
  pub kinds : length m.kinds ≡ 256
  pub refs : length m.refs ≡ 256
  pub vecs : length m.vecs ≡ 256
  pub mins : length m.mins ≡ 64
  pub maxs : length m.maxs ≡ 64
  pub states : length m.states ≡ 64
  pub vec_refs : length m.vec_refs ≡ 64

-- the tables that the first entries of each array are
abbrev pub up_to : Lists → (signals vectors : ℕ) → Lists
up_to m n v = lists (take n m.kinds) (take n m.refs) (take n m.vecs) (take v m.mins) (take v m.maxs) (take v m.states) (take v m.vec_refs)

-- what the definition says from here is what it says from the start
pub record On (s : List ℕ) (m : Lists) (p : Progress) : Type 0 where
  pub fuel : ℕ
  pub enough : length s ≤ p.at + fuel
  pub left : opening s fuel (up_to m p.signals p.vectors) p.at ≡ preamble s
  pub few_signals : p.signals ≤ 256
  pub few_vectors : p.vectors ≤ 64
  pub sized : Sized m

abbrev pub Going : (s kinds refs vecs mins maxs states vec_refs : List ℕ) → Progress → Type 0
Going s kinds refs vecs mins maxs states vec_refs p = On s (lists kinds refs vecs mins maxs states vec_refs) p

abbrev pub OpensSays : (s : List ℕ) (m : Lists) → OpenedFound → Type 0
OpensSays s m (Ok o) = (preamble s ≡ opens (up_to m o.signals o.vectors) o.big_endian o.at) × (o.signals ≤ 256) × (o.vectors ≤ 64) × (o.at ≤ length s)
OpensSays s m (told.Refused n p) = preamble s ≡ refused n p

-- an answer and the tables are the preamble's
pub record Opens (s : List ℕ) (m : Lists) (o : OpenedFound) : Type 0 where
  pub says : OpensSays s m o
  pub sized : Sized m

abbrev pub Comes : (s : List ℕ) (p : Progress) (m : Lists) → Turn → Type 0
Comes s p m (Continue q) = On s m q × (p.at < q.at) × (q.at ≤ length s)
Comes s p m (Break o) = Opens s m o

-- after a turn it has come further, or the answer is the preamble's
pub record Turned (s : List ℕ) (m : Lists) (p : Progress) (m' : Lists) (t : Turn) : Type 0 where
  pub comes : On s m p → Comes s p m' t

module _ {s : List ℕ} {m : Lists} {p : Progress} (o : On s m p) where
  abbrev Once : Type 0
  Once = (f : ℕ) × (length s ≤ p.at + suc f) × (one_item (up_to m p.signals p.vectors) p.at (item_at s p.at) (λ t j. opening s f t j) ≡ preamble s)

  once : Once
  unfolding opening one_item
  once = go o.fuel o.enough o.left
    where
      go : (f : ℕ) → length s ≤ p.at + f → opening s f (up_to m p.signals p.vectors) p.at ≡ preamble s → Once
      go zero h e = (0, omega arith, rw (sym (item_end s p.at (omega arith))) e)
      go (suc f) h e = (f, h, e)

-- one more at the end
one_more : (l : List ℕ) (n k : ℕ) → n < length l → take (n + 1) (set l n k) ≡ take n l ++ (k ∷ [])
one_more l n k h = rw (add-one n) (take-suc-set l n k h)

module _ (s : List ℕ) (p : Progress) {n : ItemFound} (u : n ≡ item_at s p.at) where
  next : (i : ItemFound) → n ≡ i → After s p.at i
  next i e = subst (After s p.at) (sym u ∙ e) (after s p.at)

  module _ {k r v j : ℕ} (e : n ≡ Signal k r v j) (kinds refs vecs kinds' refs' vecs' mins maxs states vec_refs : List ℕ) where
    signal_go : (t : Turn) → SignalComes p k r v j kinds refs vecs kinds' refs' vecs' t → On s (lists kinds refs vecs mins maxs states vec_refs) p → Comes s p (lists kinds' refs' vecs' mins maxs states vec_refs) t
    unfolding one_item signals
    signal_go (Continue q) c o =
        let z = o.sized in
        let size : length (take p.signals kinds) ≡ p.signals = length-take-le p.signals kinds (omega (arith, z.kinds, o.few_signals)) in
        let w = rw (sym u ∙ e, size, lt-ltb p.signals 256 c.0) at (once o).2 in
        let a = next (Signal k r v j) e in
        rw (c.1, c.2, c.3, c.4) (
          record {
            fuel = (once o).0;
            enough = omega (arith, (once o).1, a.0);
            left = rw (one_more kinds p.signals k (omega (arith, z.kinds, c.0)), one_more refs p.signals r (omega (arith, z.refs, c.0)), one_more vecs p.signals v (omega (arith, z.vecs, c.0))) w;
            few_signals = omega (arith, c.0);
            few_vectors = o.few_vectors;
            sized = record { kinds = length-set kinds _ _ ∙ z.kinds; refs = length-set refs _ _ ∙ z.refs; vecs = length-set vecs _ _ ∙ z.vecs; mins = z.mins; maxs = z.maxs; states = z.states; vec_refs = z.vec_refs };
          },
          a.0,
          a.1,
        )
    signal_go (Break a) c o =
        let w = rw (sym u ∙ e, length-take-le p.signals kinds (omega (arith, o.sized.kinds, o.few_signals)), le-ltb p.signals 256 c.0) at (once o).2 in
        rw (c.1, c.2, c.3, c.4) (record { says = sym w; sized = o.sized })

  module _ {a b c r j : ℕ} (e : n ≡ Vector a b c r j) (kinds refs vecs mins maxs states vec_refs mins' maxs' states' vecRefs' : List ℕ) where
    vector_go : (t : Turn) → VectorComes p a b c r j mins maxs states vec_refs mins' maxs' states' vecRefs' t → On s (lists kinds refs vecs mins maxs states vec_refs) p
        → Comes s p (lists kinds refs vecs mins' maxs' states' vecRefs') t
    unfolding one_item vectors
    vector_go (Continue q) d o =
        let z = o.sized in
        let size : length (take p.vectors mins) ≡ p.vectors = length-take-le p.vectors mins (omega (arith, z.mins, o.few_vectors)) in
        let w = rw (sym u ∙ e, size, lt-ltb p.vectors 64 d.0) at (once o).2 in
        let f = next (Vector a b c r j) e in
        rw (d.1, d.2, d.3, d.4, d.5) (
          record {
            fuel = (once o).0;
            enough = omega (arith, (once o).1, f.0);
            left = rw (one_more mins p.vectors a (omega (arith, z.mins, d.0)), one_more maxs p.vectors b (omega (arith, z.maxs, d.0)), one_more states p.vectors c (omega (arith, z.states, d.0)), one_more vec_refs p.vectors r (omega (arith, z.vec_refs, d.0))) w;
            few_signals = o.few_signals;
            few_vectors = omega (arith, d.0);
            sized = record { kinds = z.kinds; refs = z.refs; vecs = z.vecs; mins = length-set mins _ _ ∙ z.mins; maxs = length-set maxs _ _ ∙ z.maxs; states = length-set states _ _ ∙ z.states; vec_refs = length-set vec_refs _ _ ∙ z.vec_refs };
          },
          f.0,
          f.1,
        )
    vector_go (Break q) d o =
        let w = rw (sym u ∙ e, length-take-le p.vectors mins (omega (arith, o.sized.mins, o.few_vectors)), le-ltb p.vectors 64 d.0) at (once o).2 in
        rw (d.1, d.2, d.3, d.4, d.5) (record { says = sym w; sized = o.sized })

  module _ {kinds refs vecs mins maxs states vec_refs : List ℕ} where
    pub turned_signal : {k r v j : ℕ} → n ≡ Signal k r v j → {kinds' refs' vecs' : List ℕ} {t : Turn} → SignalTaken p k r v j kinds refs vecs kinds' refs' vecs' t
        → Turned s (lists kinds refs vecs mins maxs states vec_refs) p (lists kinds' refs' vecs' mins maxs states vec_refs) t
    turned_signal e {kinds'} {refs'} {vecs'} {t} a = record { comes = λ o. signal_go e kinds refs vecs kinds' refs' vecs' mins maxs states vec_refs t a.comes o }

    pub turned_vector : {a b c r j : ℕ} → n ≡ Vector a b c r j → {mins' maxs' states' vecRefs' : List ℕ} {t : Turn} → VectorTaken p a b c r j mins maxs states vec_refs mins' maxs' states' vecRefs' t
        → Turned s (lists kinds refs vecs mins maxs states vec_refs) p (lists kinds refs vecs mins' maxs' states' vecRefs') t
    turned_vector e {mins'} {maxs'} {states'} {vecRefs'} {t} a = record { comes = λ o. vector_go e kinds refs vecs mins maxs states vec_refs mins' maxs' states' vecRefs' t a.comes o }

  module _ {m : Lists} where
    pub turned_sections : {flag : Bool} {j : ℕ} → n ≡ Sections flag j → Turned s m p m (Break (told.Sections p.signals p.vectors flag j))
    unfolding one_item
    turned_sections {flag} {j} e =
        record { comes = λ o. record { says = (sym (rw (sym u ∙ e) at (once o).2), o.few_signals, o.few_vectors, (next (Sections flag j) e).1); sized = o.sized } }

    pub turned_refused : {a b : ℕ} → n ≡ Refused a b → Turned s m p m (Break (told.Refused a b))
    unfolding one_item
    turned_refused e = record { comes = λ o. record { says = sym (rw (sym u ∙ e) at (once o).2); sized = o.sized } }

pub on_start : (s : List ℕ) {m : Lists} → Sized m → On s m (record { signals = 0; vectors = 0; at = 0 })
unfolding preamble
on_start s z = record { fuel = length s; enough = omega arith; left = refl; few_signals = omega arith; few_vectors = omega arith; sized = z }

module _ {s : List ℕ} {m m' : Lists} {p : Progress} {t : Turn} (a : Turned s m p m' t) (o : On s m p) where
  pub on_more : {q : Progress} → t ≡ Continue q → On s m' q
  on_more e = (subst (Comes s p m') e (a.comes o)).0

  pub less : {q : Progress} → t ≡ Continue q → length s - q.at < length s - p.at
  less e = let c = subst (Comes s p m') e (a.comes o) in omega (arith, c.1, c.2)

  pub answered : {r : OpenedFound} → t ≡ Break r → Opens s m' r
  answered e = subst (Comes s p m') e (a.comes o)

pub ruleset one_laws = (turned_signal, turned_vector, turned_sections, turned_refused)

pub ruleset loop_laws = (on_start, on_more, less, answered)
