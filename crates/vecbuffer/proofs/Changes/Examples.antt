-- A two-state vector of ids 2 and 3 and a nine-state one of ids 4 to 6: what the room and the numbers hold after writes, and after an event.
-- Assumes nothing.
use Rattle.std.specs.Prelude.{◌≡◌, refl, [], ◌∷◌}
use Rattle.slices.specs.Splice.{splice, part}
use Rattle.states.specs.Kind.{bytes_required}
use Rattle.states.specs.Field.{field_get, field_set}
use Rattle.states.specs.Packed.{field_at, set_at, value_place}
use Rattle.tables.specs.Lists.{vectors}
use Rattle.tables.specs.Layout.{Layout, layout_of, start}
use Rattle.vecmarks.specs.Info.{info_at, with_value, mark_of, with_mark, is_marked, without_marks}
use Rattle.vecstarts.specs.Numbers.{layout_from, filled, listing}
use Rattle.vecbuffer.specs.Changes.{mk, marked, updated, taken}

abbrev t : Layout
t = layout_from (2 ∷ 4 ∷ []) (3 ∷ 6 ∷ []) (1 ∷ 0 ∷ [])

-- the first vector has a value byte and a mask byte, the second two value bytes and a mask byte, and the flags one of each
pub rows :
    (filled t (0 ∷ 0 ∷ []) 2 ≡ 2 ∷ 5 ∷ [])
    × (updated (info_at t 0) (info_at t 2) 0 0 0 1 (0 ∷ 0 ∷ 0 ∷ 0 ∷ 0 ∷ 0 ∷ 0 ∷ []) (2 ∷ 5 ∷ []) ≡ mk (1 ∷ 1 ∷ 0 ∷ 0 ∷ 0 ∷ 1 ∷ 1 ∷ []) (2 ∷ 5 ∷ []) 1)
    × (updated (info_at t 1) (info_at t 2) 1 1 2 5 (1 ∷ 1 ∷ 0 ∷ 0 ∷ 0 ∷ 1 ∷ 1 ∷ []) (2 ∷ 5 ∷ []) ≡ mk (1 ∷ 1 ∷ 5 ∷ 0 ∷ 4 ∷ 3 ∷ 3 ∷ []) (2 ∷ 65541 ∷ []) 2)
    × (updated (info_at t 1) (info_at t 2) 1 2 0 8 (1 ∷ 1 ∷ 5 ∷ 0 ∷ 4 ∷ 3 ∷ 3 ∷ []) (2 ∷ 65541 ∷ []) ≡ mk (1 ∷ 1 ∷ 5 ∷ 8 ∷ 5 ∷ 3 ∷ 3 ∷ []) (2 ∷ 65541 ∷ []) 2)
    × (taken (info_at t 1) (info_at t 2) 1 1 (1 ∷ 1 ∷ 5 ∷ 8 ∷ 5 ∷ 3 ∷ 3 ∷ []) (9 ∷ 0 ∷ 0 ∷ 0 ∷ []) ≡ (1 ∷ 1 ∷ 5 ∷ 8 ∷ 0 ∷ 1 ∷ 3 ∷ [], 9 ∷ 5 ∷ 8 ∷ 0 ∷ []))
unfolding layout_from layout_of vectors start filled listing updated marked taken with_value with_mark is_marked mark_of without_marks bytes_required value_place field_at set_at field_get field_set splice part
rows = (refl, refl, refl, refl, refl)
