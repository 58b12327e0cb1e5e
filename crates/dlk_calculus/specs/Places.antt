-- Places in a list, counted from 1. What is put at a place, and taken from one, is said of places that are there.
use Rattle.std.specs.Prelude.{◌≡◌, ℕ, ◌-◌, ◌≤◌, ◌==◌, List, length, Option, Some, None, slice_get, slice_set, take, drop, ◌++◌, if◌then◌else◌}

-- the item at a place, if there is one
abbrev pub at : {A : Type 0} → List A → ℕ → Option A
at items place = if place == 0 then None else slice_get items (place - 1)

-- x stands at the place
abbrev pub At : {A : Type 0} → List A → ℕ → A → Type 0
At items place x = at items place ≡ Some x

-- the number is one of a place
abbrev pub IsPlace : {A : Type 0} → List A → ℕ → Type 0
IsPlace items place = (1 ≤ place) × (place ≤ length items)

-- another item at a place
abbrev pub put : {A : Type 0} → List A → ℕ → A → List A
put items place x = slice_set items (place - 1) x

-- a list of items at a place, instead of the one that stands there
abbrev pub put_all : {A : Type 0} → List A → ℕ → List A → List A
put_all items place new = take (place - 1) items ++ new ++ drop place items

-- the items without the one at a place
abbrev pub without_place : {A : Type 0} → List A → ℕ → List A
without_place items place = take (place - 1) items ++ drop place items
