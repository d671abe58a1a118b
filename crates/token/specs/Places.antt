-- Places count from a page's first byte, locations with the page's offset. One is made of the other only through an offset.
-- Assumes nothing.
use Rattle.std.specs.Prelude.{ℕ, ◌+◌, ◌-◌, cond, Some, None, Option, nat_le}
use Rattle.token.specs.declared.place.Place.{Place}
use Rattle.token.specs.declared.location.Location.{Location}

-- the largest number of 32 bits
abbrev pub most : ℕ
most = 4294967295

abbrev pub number_of_place : Place → ℕ
number_of_place p = p.0

abbrev pub number_of_location : Location → ℕ
number_of_location l = l.0

-- the place with that number
abbrev pub place : ℕ → Place
place n = record { 0 = n }

abbrev pub location : ℕ → Location
location n = record { 0 = n }

-- a place's location is the offset further on, where 32 bits will do
abbrev pub location_at : Place → ℕ → Option Location
location_at p offset = cond (nat_le (number_of_place p + offset) most) (Some (location (number_of_place p + offset))) None

-- and back: no place lies below the offset
abbrev pub place_at : Location → ℕ → Option Place
place_at l offset = cond (nat_le offset (number_of_location l)) (Some (place (number_of_location l - offset))) None
