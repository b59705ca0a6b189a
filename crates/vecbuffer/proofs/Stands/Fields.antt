-- What each operation on the room's bytes does to the fields: it changes those that it names, and no other.
-- Assumes nothing.
use Rattle.std.specs.Prelude.{◌≡◌, refl, ℕ, suc, ◌^◌, ◌<◌, ◌≤◌, Bool, true, false, cond, List, ◌⊎◌, eqb, length}
use Rattle.std.proofs.Common.{ap, ◌∙◌, inl, inr, arith, eq-eqb, ne_eqb}
use Rattle.std.proofs.Math.Logic.{⊎_elim}
use Rattle.slices.specs.Choice.{tri, apart}
use Rattle.states.specs.declared.States.TheVariants.{Two}
use Rattle.states.specs.Kind.{bits}
use Rattle.tables.specs.Layout.{Layout, start, total_bytes}
use Rattle.vecmarks.specs.Info.{info_at, value_of, with_value, mark_of, with_mark, without_marks, Inside, end_of, Apart, first, last, HasValue, HasMark}
use Rattle.vecmarks.proofs.Info.Keeps.{length_value, length_mark, length_cleared, value_value, mark_value, value_value_apart, mark_value_apart, value_mark, mark_mark, value_mark_apart, mark_mark_apart, value_clear, mark_clear, value_clear_apart, mark_clear_apart}
use Rattle.tables.specs.Layout.Laws.{start_le}
use Rattle.vecstarts.specs.Numbers.Laws.{bytes_most}
use Rattle.vecbuffer.proofs.Changes.Laws.{has_value, has_mark}
use Rattle.vecbuffer.specs.Stands.{flags_at, Laid, Cells}
use Rattle.vecbuffer.specs.Stands.Fields.{clears, put, puts}

-- ---- where vectors lie

module _ {t : Layout} (l : Laid t) {room : List ℕ} (roomy : total_bytes t ≤ length room) where
  pub inside_at : {v : ℕ} → v ≤ t.count → Inside room (info_at t v)
  unfolding start
  inside_at {v} h =
      let e : start t (suc v) ≤ start t (suc t.count) = start_le t (suc v) (suc t.count) (omega arith) in
      record {
        bytes = refl;
        fits = omega arith;
        low = omega (arith, e, l.small, l.flags, l.few, bytes_most (t.state t.count) (t.width t.count), bytes_most Two (t.width t.count));
      }

module _ (t : Layout) where
  pub apart_at : {v w : ℕ} → (w < v) ⊎ (v < w) → Apart (info_at t v) (info_at t w)
  unfolding start
  apart_at {v} {w} o = ⊎_elim (λ (u : w < v). last (omega (arith, start_le t (suc w) v u))) (λ (u : v < w). first (omega (arith, start_le t (suc v) w u))) o

  -- the flags lie behind every vector
  pub before_flags : {v : ℕ} → v < t.count → end_of (info_at t v) ≤ (flags_at t).start
  unfolding start
  before_flags {v} h = omega (arith, start_le t (suc v) t.count h)

-- ---- the same fields, said in another way

pub cells_as : {t : Layout} {room : List ℕ} {f f' m m' : ℕ → ℕ → ℕ} {h h' s s' : ℕ → ℕ} → Cells t room f m h s
    → ((v b : ℕ) → v < t.count → f v b ≡ f' v b) → ((v b : ℕ) → v < t.count → m v b ≡ m' v b) → ((v : ℕ) → v < t.count → h v ≡ h' v) → ((v : ℕ) → v < t.count → s v ≡ s' v)
    → Cells t room f' m' h' s'
cells_as c p q r e =
    record {
      roomy = c.roomy;
      values = λ v b o k. c.values v b o k ∙ p v b o;
      marks = λ v b o k. c.marks v b o k ∙ q v b o;
      having = λ v o. c.having v o ∙ r v o;
      seeing = λ v o. c.seeing v o ∙ e v o;
    }

-- what holds of v, and of any other vector
by : (v w : ℕ) (P : ℕ → Bool → Type 0) → P v true → ((w < v) ⊎ (v < w) → P w false) → P w (eqb w v)
by v w P same other = ⊎_elim (λ (e : w ≡ v). rw (eq-eqb w v e, e) same) (λ (o : (w < v) ⊎ (v < w)). rw (ne_eqb w v (apart o)) (other o)) (tri w v)

module _ {t : Layout} (l : Laid t) {room : List ℕ} {f m : ℕ → ℕ → ℕ} {h s : ℕ → ℕ} (k : Cells t room f m h s) where
  flag_width : {w : ℕ} → w < t.count → w < t.width t.count
  flag_width o = rw l.flags o

  flags : Inside room (flags_at t)
  flags = inside_at l k.roomy (omega arith)

  flag_value : {w : ℕ} → w < t.count → HasValue (flags_at t) w
  flag_value o = has_value flags (flag_width o)

  flag_mark : {w : ℕ} → w < t.count → HasMark (flags_at t) w
  flag_mark o = has_mark (flag_width o)

  module _ {v : ℕ} (known : v < t.count) where
    vector : Inside room (info_at t v)
    vector = inside_at l k.roomy (omega arith)

    ahead : Apart (info_at t v) (flags_at t)
    ahead = apart_at t (inr known)

    pub cells_value : {b x : ℕ} → HasValue (info_at t v) b → x < 2 ^ bits (t.state v) → Cells t (with_value (info_at t v) b x room) (put v b x f) m h s
    cells_value {b} {x} hv small =
        record {
          roomy = rw length_value k.roomy;
          values = λ w c o u.
              by v w (λ w e. w < t.count → HasValue (info_at t w) c → value_of (info_at t w) c (with_value (info_at t v) b x room) ≡ cond e (cond (eqb c b) x (f w c)) (f w c))
              (λ o u. value_value vector hv small u ∙ ap (cond (eqb c b) x) (k.values v c o u))
              (λ d o u. value_value_apart vector hv small (apart_at t d) u ∙ k.values w c o u) o u;
          marks = λ w c o u.
              by v w (λ w e. w < t.count → HasMark (info_at t w) c → mark_of (info_at t w) c (with_value (info_at t v) b x room) ≡ m w c)
              (λ o u. mark_value vector hv small u ∙ k.marks v c o u)
              (λ d o u. mark_value_apart vector hv small (apart_at t d) u ∙ k.marks w c o u) o u;
          having = λ w o. value_value_apart vector hv small ahead (flag_value o) ∙ k.having w o;
          seeing = λ w o. mark_value_apart vector hv small ahead (flag_mark o) ∙ k.seeing w o;
        }

    pub cells_mark : {b x : ℕ} → HasMark (info_at t v) b → x < 2 → Cells t (with_mark (info_at t v) b x room) f (put v b x m) h s
    cells_mark {b} {x} hm small =
        record {
          roomy = rw length_mark k.roomy;
          values = λ w c o u.
              by v w (λ w e. w < t.count → HasValue (info_at t w) c → value_of (info_at t w) c (with_mark (info_at t v) b x room) ≡ f w c)
              (λ o u. value_mark vector hm small u ∙ k.values v c o u)
              (λ d o u. value_mark_apart vector hm small (apart_at t d) u ∙ k.values w c o u) o u;
          marks = λ w c o u.
              by v w (λ w e. w < t.count → HasMark (info_at t w) c → mark_of (info_at t w) c (with_mark (info_at t v) b x room) ≡ cond e (cond (eqb c b) x (m w c)) (m w c))
              (λ o u. mark_mark vector hm small u ∙ ap (cond (eqb c b) x) (k.marks v c o u))
              (λ d o u. mark_mark_apart vector hm small (apart_at t d) u ∙ k.marks w c o u) o u;
          having = λ w o. value_mark_apart vector hm small ahead (flag_value o) ∙ k.having w o;
          seeing = λ w o. mark_mark_apart vector hm small ahead (flag_mark o) ∙ k.seeing w o;
        }

    pub cells_clear : Cells t (without_marks (info_at t v) room) f (clears v m) h s
    cells_clear =
        record {
          roomy = rw (length_cleared vector) k.roomy;
          values = λ w c o u.
              by v w (λ w e. w < t.count → HasValue (info_at t w) c → value_of (info_at t w) c (without_marks (info_at t v) room) ≡ f w c)
              (λ o u. value_clear vector u ∙ k.values v c o u)
              (λ d o u. value_clear_apart vector (apart_at t d) u ∙ k.values w c o u) o u;
          marks = λ w c o u.
              by v w (λ w e. w < t.count → HasMark (info_at t w) c → mark_of (info_at t w) c (without_marks (info_at t v) room) ≡ cond e 0 (m w c))
              (λ o u. mark_clear vector u)
              (λ d o u. mark_clear_apart vector (apart_at t d) u ∙ k.marks w c o u) o u;
          having = λ w o. value_clear_apart vector ahead (flag_value o) ∙ k.having w o;
          seeing = λ w o. mark_clear_apart vector ahead (flag_mark o) ∙ k.seeing w o;
        }

    behind : {w : ℕ} → w < t.count → Apart (flags_at t) (info_at t w)
    behind o = apart_at t (inl o)

    pub cells_has : {x : ℕ} → x < 2 ^ bits (t.state t.count) → Cells t (with_value (flags_at t) v x room) f m (puts v x h) s
    cells_has {x} small =
        record {
          roomy = rw length_value k.roomy;
          values = λ w c o u. value_value_apart flags (flag_value known) small (behind o) u ∙ k.values w c o u;
          marks = λ w c o u. mark_value_apart flags (flag_value known) small (behind o) u ∙ k.marks w c o u;
          having = λ w o. value_value flags (flag_value known) small (flag_value o) ∙ ap (cond (eqb w v) x) (k.having w o);
          seeing = λ w o. mark_value flags (flag_value known) small (flag_mark o) ∙ k.seeing w o;
        }

    pub cells_seen : {x : ℕ} → x < 2 → Cells t (with_mark (flags_at t) v x room) f m h (puts v x s)
    cells_seen {x} small =
        record {
          roomy = rw length_mark k.roomy;
          values = λ w c o u. value_mark_apart flags (flag_mark known) small (behind o) u ∙ k.values w c o u;
          marks = λ w c o u. mark_mark_apart flags (flag_mark known) small (behind o) u ∙ k.marks w c o u;
          having = λ w o. value_mark flags (flag_mark known) small (flag_value o) ∙ k.having w o;
          seeing = λ w o. mark_mark flags (flag_mark known) small (flag_mark o) ∙ ap (cond (eqb w v) x) (k.seeing w o);
        }
