-- What the proofs of `list` and what it calls search.
-- Assumes nothing.
use Rattle.std.specs.Prelude.{◌≡◌, ℕ, ◌≤◌, ◌<◌, min, Bool, List, length, take, drop, Err}
use Rattle.std.proofs.Common.{sym, subst, ◌∙◌, arith, le-leb, eq-eqb, ne_eqb, length-take-le}
use Rattle.refusals.specs.Numbers.{Numbered}
use Rattle.std.proofs.Math.Path.{ap}
use Rattle.std.proofs.lemmas.Bool.{lt-leb}
use Rattle.tables.specs.Lists.{Lists, lists}
use Rattle.values.specs.Value.{ordinary}
use Rattle.answers.specs.declared.Answer.{Answer}
use Rattle.entries.specs.Entries.{read_sections}
use Rattle.left_buffers.specs.Left.{left_of, lent_of}
use Rattle.listing_text.specs.declared.Tables.{Tables}
use Rattle.preamble.specs.Opened.{OpenedFound}
use Rattle.preamble.specs.Opened as opened
use Rattle.plain_text.specs.Text.{Holds}
use Rattle.plain_text.specs.Text.Laws.{Adds, adds_alone, adds_then, take_min, holds_fits, holds_front}
use Rattle.listing_text.specs.Lines.{done_word, refused_word, pair_line, event_lines}
use Rattle.preamble.specs.Preamble.{preamble}
use Rattle.preamble.specs.Preamble.Loop.{Opens, OpensSays, up_to}
use Rattle.listing_text.specs.Listing.{told, lends, section_lines, after_preamble, listing}

-- ---- what is told

pub front : (n : ℕ) (l : List ℕ) → n ≤ length l → length (take n l) ≡ n
front n l h = length-take-le n l h

module _ (t events values : List ℕ) (a : Answer) {t' : List ℕ} {r : ℕ} where
  pub told_refused : (a.number ≡ 0 → ⊥) → Holds t (pair_line refused_word a.number a.place) t' r → Holds t (told a events values) t' r
  unfolding told
  told_refused n h = rw (ne_eqb a.number 0 n) h

  pub told_lines : a.number ≡ 0 → {n : ℕ} → n ≡ min (length events) a.events → {t₁ : List ℕ} {end : ℕ} → Adds t 0 (event_lines (take n events) values) t₁ end
      → Adds t₁ end (pair_line done_word a.read a.steps) t' r → Holds t (told a events values) t' r
  unfolding told
  told_lines e m p q = rw (eq-eqb a.number 0 e, ← take_min a.events events, ← m) (adds_alone (adds_then p q))

pub refuse_alone : {t t' l : List ℕ} {r : ℕ} → Adds t 0 l t' r → Holds t l t' r
refuse_alone a = adds_alone a

-- ---- section reading

module _ (t : Lists) (flag : Bool) (s : List ℕ) {room room' : List ℕ} {r : ℕ} where
  pub sections_told : (e v w l : List ℕ) {a : Answer} {e' v' w' l' : List ℕ} → left_of a e' v' w' l' ≡ read_sections t (ordinary flag) s (lent_of e v w l) → lent_of e v w l ≡ lends → Holds room (told a e' v') room' r
      → Holds room (section_lines t flag s) room' r
  unfolding section_lines
  sections_told e v w l {a} {e'} {v'} {w'} {l'} p q h =
      let z : left_of a e' v' w' l' ≡ read_sections t (ordinary flag) s lends = p ∙ ap (read_sections t (ordinary flag) s) q in rw (sym z) h

-- ---- the tables

abbrev pub lists_of : Tables → Lists
lists_of t = lists t.kinds.now t.refs.now t.vecs.now t.mins.now t.maxs.now t.states.now t.vec_refs.now

-- the first entries of each array, and the section bytes, lie within them
pub record Within (s : List ℕ) (m : Lists) (n v at : ℕ) : Type 0 where
  pub kinds : n ≤ length m.kinds
  pub refs : n ≤ length m.refs
  pub vecs : n ≤ length m.vecs
  pub mins : v ≤ length m.mins
  pub maxs : v ≤ length m.maxs
  pub states : v ≤ length m.states
  pub vec_refs : v ≤ length m.vec_refs
  pub rest : at ≤ length s

-- ---- all of it

says : (s : List ℕ) {m : Lists} {o : OpenedFound} → Opens s m o → {q : OpenedFound} → o ≡ q → OpensSays s m q
says s {m} a e = subst (OpensSays s m) e a.says

pub list_within : {s : List ℕ} {m : Lists} {o : OpenedFound} → Opens s m o → {n v at : ℕ} {flag : Bool} → o ≡ opened.Sections n v flag at → Within s m n v at
list_within {s} a e =
    let c = says s a e in
    let z = a.sized in
    record {
      kinds = omega (arith, c.1, z.kinds);
      refs = omega (arith, c.1, z.refs);
      vecs = omega (arith, c.1, z.vecs);
      mins = omega (arith, c.2, z.mins);
      maxs = omega (arith, c.2, z.maxs);
      states = omega (arith, c.2, z.states);
      vec_refs = omega (arith, c.2, z.vec_refs);
      rest = c.3;
    }

module _ (s : List ℕ) {room room' : List ℕ} {r : ℕ} where
  pub list_long : 32768 < length s → Holds room (pair_line refused_word 1 32768) room' r → Holds room (listing s) room' r
  unfolding listing
  list_long h p = rw (lt-leb (length s) 32768 h) p

  pub list_short : length s ≤ 32768 → Holds room (after_preamble s (preamble s)) room' r → Holds room (listing s) room' r
  unfolding listing
  list_short h p = rw (le-leb (length s) 32768 h) p

  module _ {m : Lists} {o : OpenedFound} (a : Opens s m o) where
    pub short_refused : {x : Numbered} → o ≡ Err x → {n p : ℕ} → n ≡ x.0 → {p' : ℕ} → p' ≡ p → p ≡ x.1 → Holds room (pair_line refused_word n p') room' r
        → Holds room (after_preamble s (preamble s)) room' r
    unfolding after_preamble
    short_refused e f g h d = rw (says s a e) (rw (f, g ∙ h) at d)

    pub short_opens : {n v at : ℕ} {flag : Bool} → o ≡ opened.Sections n v flag at → Holds room (section_lines (up_to m n v) flag (drop at s)) room' r → Holds room (after_preamble s (preamble s)) room' r
    unfolding after_preamble
    short_opens e d = rw (says s a e).0 d

pub ruleset refuse_laws = (refuse_alone)

pub ruleset tell_laws = (front, told_refused, told_lines)

pub ruleset section_laws = (sections_told)

pub ruleset short_laws = (list_within, short_refused, short_opens)

pub ruleset list_laws = (list_long, list_short, holds_fits, holds_front)
