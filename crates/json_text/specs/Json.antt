-- A JSON value as a tree: RFC 8259, section 3, "a string, number, boolean, null, object, or array". The members of an object stay in written
-- order, and a name that comes twice stays twice.
-- Assumes nothing.
use Rattle.std.specs.Prelude.{Bool, List, ℕ}

mutual
  pub data Json : Type 0 where
    null : Json
    bool : Bool → Json
    -- as it is written
    number : List ℕ → Json
    -- as it is decoded
    string : List ℕ → Json
    array : Items → Json
    object : Members → Json

  pub data Items : Type 0 where
    no_item : Items
    item : Json → Items → Items

  -- each a name, decoded, and a value
  pub data Members : Type 0 where
    no_member : Members
    member : List ℕ → Json → Members → Members
