-- How far a call that fills one output has come.
-- Assumes nothing.
use Rattle.std.specs.Prelude.{◌≡◌, refl, ℕ, ◌+◌, ◌≤◌, ◌<◌, List, [], ◌++◌, length, None, Option, Some}
use Rattle.std.proofs.Common.{sym, ap, subst, ◌∙◌, add-zero, arith, length-append}
use Rattle.slices.specs.Splice.Laws.{splice_nil, length_splice}
use Rattle.number_writer.specs.Ended.{wrote, refused, Fills}
use Rattle.number_writer.specs.Put.{Puts, Lies, puts_more}
use Rattle.number_writer.specs.Written.{Done, Refused}
pub mod Steps
pub mod Fuel

-- What has been written stands at the front of the room that was lent, in `n` bytes. `Left` says of it: behind it, what
-- the definition says from here is what it says from the start.
pub record FillingBy {H : Type 0} (bytes : H → List ℕ) (Left : H → Type 0) (room : List ℕ) (n : ℕ) (out : List ℕ)
    : Type 0 where
  pub held : H
  pub left : Left held
  pub put : Puts room 0 (bytes held) out (Some n)
  pub long : length out ≡ length room

-- .. where what has been written is bytes and no more
abbrev pub Filling : (Left : List ℕ → Type 0) (room : List ℕ) (n : ℕ) (out : List ℕ) → Type 0
Filling Left room n out = FillingBy (λ bs. bs) Left room n out

-- no bytes put
pub puts_none : (out : List ℕ) (at : ℕ) → at ≤ length out → Puts out at [] out (Some at)
puts_none out at h = record { lies = (splice_nil out at, sym (add-zero at), h) }

module _ {H : Type 0} {bytes : H → List ℕ} {Left : H → Type 0} where
  pub filling_start : (room : List ℕ) (h : H) → bytes h ≡ [] → Left h → FillingBy bytes Left room 0 room
  filling_start room h e l = record { held = h; left = l; put = rw e (puts_none room 0 (omega arith)); long = refl }

  module _ {room : List ℕ} {n : ℕ} {out : List ℕ} (o : FillingBy bytes Left room n out) where
    pub filling_count : n ≡ length (bytes o.held)
    filling_count = omega (arith, o.put.lies.1)

    pub filling_used : n ≤ length out
    filling_used = omega (arith, o.long, o.put.lies.2)

    pub filling_inside : length (bytes o.held) ≤ length room
    filling_inside = omega (arith, filling_count, o.put.lies.2)

    -- nothing more
    pub filling_stay : {Left' : H → Type 0} → Left' o.held → FillingBy bytes Left' room n out
    filling_stay l = record { held = o.held; left = l; put = o.put; long = o.long }

    -- some bytes more
    module _ {bs out' : List ℕ} {f : Option ℕ} (q : Puts out n bs out' f) where
      pub filling_behind : Puts room 0 (bytes o.held ++ bs) out' f
      filling_behind = puts_more o.put refl bs q

      module _ {c : ℕ} (e : f ≡ Some c) where
        fitted : Lies room 0 (bytes o.held ++ bs) out' (Some c)
        fitted = subst (Lies room 0 (bytes o.held ++ bs) out') e filling_behind.lies

        pub filling_fits : length (bytes o.held) + length bs ≤ length room
        filling_fits = omega (arith, fitted.1, fitted.2, length-append (bytes o.held) bs)

        pub filling_turn : (h : H) → bytes h ≡ bytes o.held ++ bs → {Left' : H → Type 0} → Left' h
            → FillingBy bytes Left' room c out'
        filling_turn h w l =
            let long = length_splice room 0 (bytes o.held ++ bs) (omega (arith, fitted.1, fitted.2)) in
            record { held = h; left = l; put = rw w (record { lies = fitted }); long = ap length fitted.0 ∙ long }

        pub filling_done : (read steps : ℕ)
            → Fills (wrote read (bytes o.held ++ bs) steps) room out' (Done read c steps)
        filling_done read steps =
            record { says = (bytes o.held ++ bs, refl, fitted.0, omega (arith, fitted.1), fitted.2) }

      -- .. that do not fit
      pub filling_full : f ≡ None → length room < length (bytes o.held) + length bs
      filling_full e =
          let l = subst (Lies room 0 (bytes o.held ++ bs) out') e filling_behind.lies in
          omega (arith, l, length-append (bytes o.held) bs)

pub filling_bad : (room out : List ℕ) (number place : ℕ) → Fills (refused number place) room out (Refused number place)
filling_bad room out number place = record { says = refl }
