-- What the proofs search of the code that writes change records: their bytes, and one item.
-- Assumes nothing.
use Rattle.std.specs.Prelude.{◌≡◌, refl, ℕ, ◌+◌, ◌/◌, ◌%◌, ◌^◌, ◌≤◌, ◌<◌, Bool, true, false, cond, List, [], ◌∷◌, length, leb, None, Option, Some}
use Rattle.std.proofs.Common.{sym, ap, subst, ◌∙◌, div-add-mod', le-leb, Fits}
use Rattle.std.proofs.lemmas.Bool.{false≢true, lt-leb}
use native.Mathlib.Omega.{arith}
use Rattle.std.specs.Int.{w8, w32}
use Rattle.slices.specs.Splice.{splice}
use Rattle.slices.specs.Splice.Laws.{splice_all}
use Rattle.slices.specs.Field.{field_of}
use Rattle.numbers.specs.Fixed.{big_bytes}
use Rattle.numbers.specs.Fixed.Laws.{length_big_bytes, big_bytes_low}
use Rattle.number_writer.specs.Put.{after_put, Puts, puts_one, puts_short, puts_more}
use Rattle.number_writer.specs.Little.{fixed_bytes}
use Rattle.states.specs.Letters.{unmapped}
use Rattle.tables.specs.Lists.{nth}
use Rattle.values.specs.Value.{most_of, Suits}
use Rattle.section_heads.specs.declared.Stand.{Stand}
use Rattle.section_heads.specs.declared.Said.{Said}
use Rattle.section_heads.specs.declared.Said.TheVariants.{Nothing, Time, Write, StepEnd, Over, Bad}
use Rattle.section_heads.specs.declared.Item.{Item}
use Rattle.filling.specs.Filling.{puts_none}
use Rattle.filling.specs.Filling.Steps as step
use Rattle.filling.specs.Filling.Steps.{Step, DoesBy}
use Rattle.read_back.specs.declared.Progress.{Progress}
use Rattle.read_back.specs.Going.{Turn}
use Rattle.std.proofs.Common.{Continue, Break}
use Rattle.number_writer.specs.Written.{Refused}
use Rattle.read_back.specs.ReadBack.{byte_of, write_of}
use Rattle.sections.specs.Item.Code.{IdOf}
use Rattle.sections.specs.Item.Scans.{said_times, ends, Sound}

-- the record of what is said, where it is something
unfoldable pub said_bytes : List ℕ → Said → List ℕ
said_bytes kinds Nothing = []
said_bytes kinds (Time u) = 1 ∷ big_bytes 8 u
said_bytes kinds (Write v id) = write_of (nth kinds id) id v
said_bytes kinds StepEnd = 4 ∷ []
said_bytes kinds Over = []
said_bytes kinds (Bad n) = []

-- ---- an id

pub low_four : (id : ℕ) → big_bytes 4 (id % 4294967296) ≡ big_bytes 4 id
low_four id = sym (big_bytes_low 4 (id / 256 ^ 4) (id % 256 ^ 4)) ∙ ap (big_bytes 4) (div-add-mod' id (256 ^ 4))

pub low_fits : (id : ℕ) → Fits w32 (id % 4294967296)
low_fits id = omega arith

pub id_put : (id : ℕ) (out : List ℕ) (at : ℕ) (d : List ℕ) → length d ≡ 4 → {d' : List ℕ} → d' ≡ splice d 0 (big_bytes 4 (id % 4294967296)) → {out' : List ℕ} → out' ≡ after_put out at d' → out' ≡ after_put out at (big_bytes 4 id)
id_put id out at d l e w = w ∙ ap (after_put out at) (e ∙ (splice_all d (big_bytes 4 (id % 4294967296)) (length_big_bytes 4 _ ∙ sym l) ∙ low_four id))

pub id_count : (id : ℕ) (out : List ℕ) (at : ℕ) (d : List ℕ) → length d ≡ 4 → (d' : List ℕ) → d' ≡ splice d 0 (big_bytes 4 (id % 4294967296)) → {f : Option ℕ} → f ≡ field_of (length d') out at → f ≡ field_of 4 out at
id_count id out at d l d' e w =
    let k : length d' ≡ 4 = ap length (e ∙ splice_all d (big_bytes 4 (id % 4294967296)) (length_big_bytes 4 _ ∙ sym l)) ∙ length_big_bytes 4 _ in
    rw k at w

pub ruleset id_laws = (low_fits, id_put, id_count)

-- ---- records

module _ (out : List ℕ) (at : ℕ) {out₁ : List ℕ} {f : Option ℕ} (d : f ≡ field_of 1 out at) where
  module _ (u : ℕ) (e : out₁ ≡ after_put out at (1 ∷ [])) where
    pub time_short : f ≡ None → Puts out at (1 ∷ big_bytes 8 u) out₁ None
    time_short g = puts_short (puts_one out at (1 ∷ []) d e) (big_bytes 8 u) g

    pub time_more : {j : ℕ} → f ≡ Some j → {g : Option ℕ} → g ≡ field_of 8 out₁ j → {out₂ : List ℕ} → out₂ ≡ after_put out₁ j (fixed_bytes true 8 u) → Puts out at (1 ∷ big_bytes 8 u) out₂ g
    unfolding fixed_bytes
    time_more {j} n x y = puts_more (puts_one out at (1 ∷ []) d e) n (big_bytes 8 u) (puts_one out₁ j (big_bytes 8 u) (rw (length_big_bytes 8 u) x) y)

  module _ (k id : ℕ) (e : out₁ ≡ after_put out at (k ∷ [])) where
    pub head_short : f ≡ None → Puts out at (k ∷ big_bytes 4 id) out₁ None
    head_short g = puts_short (puts_one out at (k ∷ []) d e) (big_bytes 4 id) g

    pub head_more : {j : ℕ} → f ≡ Some j → {g : Option ℕ} → g ≡ field_of 4 out₁ j → {out₂ : List ℕ} → out₂ ≡ after_put out₁ j (big_bytes 4 id) → Puts out at (k ∷ big_bytes 4 id) out₂ g
    head_more {j} n x y = puts_more (puts_one out at (k ∷ []) d e) n (big_bytes 4 id) (puts_one out₁ j (big_bytes 4 id) (rw (length_big_bytes 4 id) x) y)

pub ruleset time_laws = (time_short, time_more)

pub ruleset head_laws = (head_short, head_more)

-- a value of a byte's kind
pub record Small (kind v : ℕ) : Type 0 where
  pub within : v ≤ most_of kind

module _ {kind v : ℕ} (w : Small kind v) where
  pub nine_small : kind ≤ 1 → v ≤ 8
  unfolding most_of
  nine_small h = rw (le-leb kind 1 h) at w.within

  pub nine_fits : kind ≤ 1 → Fits w8 v
  nine_fits h = let m = nine_small h in omega arith

  pub nine_byte : kind ≤ 1 → {b : ℕ} → b ≡ unmapped v → b ≡ byte_of kind v
  unfolding byte_of
  nine_byte h e = rw (le-leb kind 1 h) e

  most_small : (b : Bool) → v ≤ cond b 1 255 → v ≤ 255
  most_small true h = omega arith
  most_small false h = h

  pub byte_fits : 1 < kind → Fits w8 v
  unfolding most_of
  byte_fits h = let m : v ≤ 255 = most_small (leb kind 3) (rw (lt-leb kind 1 h) at w.within) in omega arith

  pub other_byte : 1 < kind → v ≡ byte_of kind v
  unfolding byte_of
  other_byte h = rw (lt-leb kind 1 h)

pub ruleset byte_laws = (nine_small, nine_fits, nine_byte, byte_fits, other_byte)

module _ (kind id v : ℕ) {out : List ℕ} {at : ℕ} {out₁ : List ℕ} {f : Option ℕ} where
  module _ (h : kind ≤ 4) (q : Puts out at (2 ∷ big_bytes 4 id) out₁ f) where
    pub write_byte_short : f ≡ None → Puts out at (write_of kind id v) out₁ None
    unfolding write_of
    write_byte_short e = rw (le-leb kind 4 h) (puts_short q (byte_of kind v ∷ []) e)

    pub write_byte_more : {j : ℕ} → f ≡ Some j → {g : Option ℕ} → g ≡ field_of 1 out₁ j → {b : ℕ} → b ≡ byte_of kind v → {out₂ : List ℕ} → out₂ ≡ after_put out₁ j (b ∷ []) → Puts out at (write_of kind id v) out₂ g
    unfolding write_of
    write_byte_more {j} n x z y = rw (le-leb kind 4 h) (puts_more q n (byte_of kind v ∷ []) (puts_one out₁ j (byte_of kind v ∷ []) x (rw z at y)))

  module _ (h : 4 < kind) (q : Puts out at (3 ∷ big_bytes 4 id) out₁ f) where
    pub write_wide_short : f ≡ None → Puts out at (write_of kind id v) out₁ None
    unfolding write_of
    write_wide_short e = rw (lt-leb kind 4 h) (puts_short q (big_bytes 8 v) e)

    pub write_wide_more : {j : ℕ} → f ≡ Some j → {g : Option ℕ} → g ≡ field_of 8 out₁ j → {out₂ : List ℕ} → out₂ ≡ after_put out₁ j (fixed_bytes true 8 v) → Puts out at (write_of kind id v) out₂ g
    unfolding write_of fixed_bytes
    write_wide_more {j} n x y = rw (lt-leb kind 4 h) (puts_more q n (big_bytes 8 v) (puts_one out₁ j (big_bytes 8 v) (rw (length_big_bytes 8 v) x) y))

-- a write's value suits its signal
pub record Fitting (kind v : ℕ) : Type 0 where
  pub suits : Suits kind v

pub fitting_small : {kind v : ℕ} → Fitting kind v → kind ≤ 4 → Small kind v
fitting_small f h = record { within = f.suits h }

pub ruleset write_byte_laws = (write_byte_short, write_byte_more)

pub ruleset write_wide_laws = (write_wide_short, write_wide_more)

pub ruleset write_laws = (fitting_small)

-- ---- what is said

pub record Sounds (kinds : List ℕ) (a : Said) : Type 0 where
  pub sound : Sound kinds a

pub said_nothing : (kinds : List ℕ) (a : Said) (out : List ℕ) (at : ℕ) → said_bytes kinds a ≡ [] → at ≤ length out → Puts out at (said_bytes kinds a) out (Some at)
said_nothing kinds a out at e h = rw e (puts_none out at h)

module _ (kinds : List ℕ) {a : Said} {out : List ℕ} {at : ℕ} where
  module _ {out' : List ℕ} {f : Option ℕ} where
    pub said_time : {u : ℕ} → a ≡ Time u → Puts out at (1 ∷ big_bytes 8 u) out' f → Puts out at (said_bytes kinds a) out' f
    unfolding said_bytes
    said_time e q = rw e q

    pub said_write : {id v : ℕ} → a ≡ Write v id → {k : ℕ} → k ≡ nth kinds id → Puts out at (write_of k id v) out' f → Puts out at (said_bytes kinds a) out' f
    unfolding said_bytes
    said_write e z q = rw e (rw z at q)

    pub said_end : a ≡ StepEnd → f ≡ field_of 1 out at → out' ≡ after_put out at (4 ∷ []) → Puts out at (said_bytes kinds a) out' f
    unfolding said_bytes
    said_end e x y = rw e (puts_one out at (4 ∷ []) x y)

module _ {kinds : List ℕ} {a : Said} (w : Sounds kinds a) {id v : ℕ} (e : a ≡ Write v id) where
  pub said_id : IdOf kinds id
  said_id = (subst (Sound kinds) e w.sound).0

  pub said_fits : {k : ℕ} → k ≡ nth kinds id → Fitting k v
  said_fits z = record { suits = rw z (subst (Sound kinds) e w.sound).1 }

pub ruleset said_laws = (said_nothing, said_time, said_write, said_end, said_id, said_fits)

module _ {a : Said} where
  pub times_time : {u : ℕ} → a ≡ Time u → 1 ≡ said_times a
  unfolding said_times
  times_time e = rw e

pub ruleset times_laws = (times_time)

-- ---- one item

abbrev pub going : Stand × ℕ → (read count : ℕ) → Turn
going (m, k) j c = Continue (record { mode = m; read = j; count = c; steps = k })

-- what an item gives that says something, or nothing, after `k` steps: its record
abbrev pub taking : List ℕ → (k j : ℕ) → Said → Stand → Step (Stand × ℕ)
taking kinds k j a m = step.goes (said_bytes kinds a) (m, k + said_times a) j

-- what any item gives
abbrev pub step_by : List ℕ → (k j : ℕ) → Stand → Said → Step (Stand × ℕ)
step_by kinds k j m Nothing = taking kinds k j Nothing m
step_by kinds k j m (Time u) = taking kinds k j (Time u) m
step_by kinds k j m (Write v id) = taking kinds k j (Write v id) m
step_by kinds k j m StepEnd = taking kinds k j StepEnd m
step_by kinds k j m Over = step.ends [] j k
step_by kinds k j m (Bad n) = step.stops n.0 n.1

abbrev pub step_of : List ℕ → ℕ → Item → Step (Stand × ℕ)
step_of kinds k x = step_by kinds k x.at x.then x.said

-- what an item gives is put, or it does not fit; or the input is over, or refused
pub record Does (out : List ℕ) (p : Progress) (g : Step (Stand × ℕ)) (out' : List ℕ) (r : Turn) : Type 0 where
  pub does : DoesBy going Break out p.count g out' r

pub step_taking : (kinds : List ℕ) (k j : ℕ) (m : Stand) (a : Said) → ends a ≡ false
    → step_by kinds k j m a ≡ taking kinds k j a m
step_taking kinds k j m Nothing e = refl
step_taking kinds k j m (Time u) e = refl
step_taking kinds k j m (Write v id) e = refl
step_taking kinds k j m StepEnd e = refl
step_taking kinds k j m Over e = absurd (false≢true (sym e))
step_taking kinds k j m (Bad n) e = absurd (false≢true (sym e))

-- the steps so far, and those of an item, are at most the bytes read
pub record Counts (p : Progress) (a : Said) (j : ℕ) : Type 0 where
  pub few : p.steps + said_times a ≤ j
  pub more : p.steps ≤ j

module _ (kinds out : List ℕ) (p : Progress) (a : Said) (m : Stand) (j : ℕ) {out' : List ℕ} {f : Option ℕ}
    (q : Puts out p.count (said_bytes kinds a) out' f) where
  pub does_short : f ≡ None → Does out p (taking kinds p.steps j a m) out' (Break (Refused 16 j))
  does_short e = record { does = (f, q, rw e) }

  pub does_more : {c : ℕ} → f ≡ Some c → {k : ℕ} → k ≡ said_times a
      → Does out p (taking kinds p.steps j a m) out'
      (Continue (record { mode = m; read = j; count = c; steps = p.steps + k }))
  does_more e z = record { does = (f, q, rw (e, z)) }

pub steps_fit : (p : Progress) (a : Said) (j : ℕ) → Counts p a j → {k : ℕ} → k ≡ said_times a → j < 2 ^ 64 → p.steps + k < 2 ^ 64
steps_fit p a j w e h = omega (arith, w.few)

pub ruleset does_laws = (does_short, does_more, steps_fit)
