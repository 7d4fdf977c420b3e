-- JSON values whose numbers are small.
use Rattle.std.specs.Prelude.{◌≡◌, ◌<◌, ◌^◌, ℕ, decimal}
use Rattle.json.specs.Json.{Json, null, boolean, number, string, array, object, Items, no_items, item, Members, no_members, member}

-- the numbers in a value are whole and below 2^64, as the numbers of lines are
abbrev mutual
  pub HasSmallNumbers : Json → Type 0
  HasSmallNumbers null = Unit {0}
  HasSmallNumbers (boolean b) = Unit {0}
  HasSmallNumbers (number s) = (n : ℕ) × (n < 2 ^ 64) × (s ≡ decimal n)
  HasSmallNumbers (string s) = Unit {0}
  HasSmallNumbers (array js) = ItemsAreSmall js
  HasSmallNumbers (object ms) = MembersAreSmall ms

  pub ItemsAreSmall : Items → Type 0
  ItemsAreSmall no_items = Unit {0}
  ItemsAreSmall (item j js) = HasSmallNumbers j × ItemsAreSmall js

  pub MembersAreSmall : Members → Type 0
  MembersAreSmall no_members = Unit {0}
  MembersAreSmall (member name j ms) = HasSmallNumbers j × MembersAreSmall ms
