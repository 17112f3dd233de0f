-- Readings: the tree of values with members in order; its depth, and whether an object has a name twice. Readings with places.
use Rattle.std.specs.Prelude.{Bool, false, ◌||◌, List, [], ◌∷◌, ℕ, suc, max}
use Rattle.common.specs.Same.{same}

-- a string is its code points after the escapes are resolved, a number its written characters
mutual
  pub data Value : Type 0 where
    string_v : List ℕ → Value
    number_v : List ℕ → Value
    true_v : Value
    false_v : Value
    null_v : Value
    array_v : Values → Value
    object_v : Members → Value

  pub data Values : Type 0 where
    vnil : Values
    vcons : Value → Values → Values

  -- names with their values, in order
  pub data Members : Type 0 where
    mnil : Members
    mcons : List ℕ → Value → Members → Members

-- Depth: arrays and objects count, empty ones too.
unfoldable mutual
  pub depth : Value → ℕ
  depth (string_v cs) = 0
  depth (number_v cs) = 0
  depth true_v = 0
  depth false_v = 0
  depth null_v = 0
  depth (array_v vs) = suc (depth_values vs)
  depth (object_v ms) = suc (depth_members ms)

  pub depth_values : Values → ℕ
  depth_values vnil = 0
  depth_values (vcons v vs) = max (depth v) (depth_values vs)

  pub depth_members : Members → ℕ
  depth_members mnil = 0
  depth_members (mcons n v ms) = max (depth v) (depth_members ms)

-- Names are equal when their code points are (RFC 7515 section 5.3).
unfoldable pub among : List ℕ → List (List ℕ) → Bool
among x [] = false
among x (y ∷ ys) = same x y || among x ys

-- some name stands twice in a list of names
unfoldable pub repeated : List (List ℕ) → Bool
repeated [] = false
repeated (x ∷ xs) = among x xs || repeated xs

unfoldable pub names : Members → List (List ℕ)
names mnil = []
names (mcons n v ms) = n ∷ names ms

-- some object, at any depth, has a name twice
unfoldable mutual
  pub twice : Value → Bool
  twice (string_v cs) = false
  twice (number_v cs) = false
  twice true_v = false
  twice false_v = false
  twice null_v = false
  twice (array_v vs) = twice_values vs
  twice (object_v ms) = repeated (names ms) || twice_members ms

  pub twice_values : Values → Bool
  twice_values vnil = false
  twice_values (vcons v vs) = twice v || twice_values vs

  pub twice_members : Members → Bool
  twice_members mnil = false
  twice_members (mcons n v ms) = twice v || twice_members ms

-- Located readings: each name and each value has its place in a text. A place is the bytes that stand from there on.
mutual
  pub data LValue : Type 0 where
    string_l : List ℕ → LValue
    number_l : List ℕ → LValue
    true_l : LValue
    false_l : LValue
    null_l : LValue
    array_l : LItems → LValue
    object_l : LMembers → LValue

  -- a value, from its first byte to the place after its last
  pub data LItem : Type 0 where
    item : List ℕ → List ℕ → LValue → LItem

  pub data LItems : Type 0 where
    inil : LItems
    icons : LItem → LItems → LItems

  -- a name between its quotation marks, from its first byte to the place after its last; its code points; its value
  pub data LMember : Type 0 where
    named : List ℕ → List ℕ → List ℕ → LItem → LMember

  pub data LMembers : Type 0 where
    lnil : LMembers
    lcons : LMember → LMembers → LMembers

-- the reading in a located reading
unfoldable mutual
  pub plain : LValue → Value
  plain (string_l cs) = string_v cs
  plain (number_l cs) = number_v cs
  plain true_l = true_v
  plain false_l = false_v
  plain null_l = null_v
  plain (array_l vs) = array_v (plain_items vs)
  plain (object_l ms) = object_v (plain_members ms)

  pub plain_item : LItem → Value
  plain_item (item f t v) = plain v

  pub plain_items : LItems → Values
  plain_items inil = vnil
  plain_items (icons v vs) = vcons (plain_item v) (plain_items vs)

  -- a member, before the members ms
  pub plain_member : LMember → Members → Members
  plain_member (named f t n v) ms = mcons n (plain_item v) ms

  pub plain_members : LMembers → Members
  plain_members lnil = mnil
  plain_members (lcons m ms) = plain_member m (plain_members ms)
