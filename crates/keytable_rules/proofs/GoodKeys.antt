-- What a table that isn't bad promises of its keys. Nothing in these statements speaks of the table's bytes.
use Rattle.std.specs.Prelude.{◌≡◌, false, List, ℕ, ◌≤◌, ◌<◌, length, Some}
use Rattle.std.proofs.Common.{sym, ap, ◌∙◌, arith, length-take, length-drop}
use Rattle.common.specs.Bytes.{Bytes}
use Rattle.common.specs.BytesLaws.{bytes_take, bytes_drop}
use Rattle.keytable_rules.proofs.KeyLaws.{find_is}
use Rattle.keytable_rules.specs.Key.{Key, key, Distinct, Named, find}
use Rattle.keytable_rules.specs.Table.{keys_most, id_least, id_most, secret_least, secret_most, algorithms_end, Area, part, id_area, secret_area, Placed, bad_table, keys}
use Rattle.keytable_rules.proofs.TableLaws.{wellformed, length_keys, entry}

pub keys_few : (T : List ℕ) → bad_table T ≡ false → length (keys T) ≤ keys_most
keys_few T e = omega (arith, length_keys T, (wellformed T e).count)

pub keys_distinct : (T : List ℕ) → bad_table T ≡ false → Distinct (keys T)
keys_distinct T e i j l h same_id =
    let a = entry T e i (omega arith) in
    let b = entry T e j h in
    (wellformed T e).ids j b.counted i l (sym (ap (λ k. k.id) a.means) ∙ same_id ∙ ap (λ k. k.id) b.means)

-- the key that has an id is the one found
pub find_key : (T : List ℕ) → bad_table T ≡ false → {id : List ℕ} {i : ℕ} → Named id (keys T) i → find id (keys T) ≡ Some i
find_key T e n = find_is (keys_distinct T e) n

pub record GoodKey (k : Key) : Type 0 where
  pub id_long : id_least ≤ length k.id
  pub id_short : length k.id ≤ id_most
  pub secret_long : secret_least ≤ length k.secret
  pub secret_short : length k.secret ≤ secret_most
  pub algorithms : k.algorithms < algorithms_end

length_part : (T : List ℕ) (least most : ℕ) (a : Area) → Placed T least most a → length (part T a) ≡ a.size
length_part T least most a p = simp (length-take, length-drop) (omega (arith, p.ends))

pub keys_good : (T : List ℕ) → bad_table T ≡ false → (i : ℕ) → i < length (keys T) → GoodKey (key (keys T) i)
keys_good T e i h =
    let n = entry T e i h in
    let d = n.good.id in
    let s = n.good.secret in
    rw n.means (record {
      id_long = omega (arith, length_part _ _ _ _ d, d.long);
      id_short = omega (arith, length_part _ _ _ _ d, d.short);
      secret_long = omega (arith, length_part _ _ _ _ s, s.long);
      secret_short = omega (arith, length_part _ _ _ _ s, s.short);
      algorithms = n.good.algorithms;
    })

bytes_part : (T : List ℕ) (a : Area) → Bytes T → Bytes (part T a)
bytes_part T a b = bytes_take a.size (bytes_drop a.offset b)

pub secret_bytes : (T : List ℕ) → Bytes T → bad_table T ≡ false → (i : ℕ) → i < length (keys T) → Bytes (key (keys T) i).secret
secret_bytes T b e i h = rw (entry T e i h).means (bytes_part T (secret_area T i) b)

pub id_bytes : (T : List ℕ) → Bytes T → bad_table T ≡ false → (i : ℕ) → i < length (keys T) → Bytes (key (keys T) i).id
id_bytes T b e i h = rw (entry T e i h).means (bytes_part T (id_area T i) b)
