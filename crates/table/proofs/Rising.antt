-- Rising lists: inserting, looking up, counting, filtering, and the rising list of entries in any order.
use Rattle.std.proofs.Common.{◌≡◌, ℕ, Bool, true, false, cond, List, [], ◌∷◌, ◌++◌, length, Some, filter, Ordering, Less, Equal, sym, refl, ap, ◌∙◌, arith}
use Rattle.std.specs.Ordering.{is_lt}
use Rattle.std.specs.Option.{is_some}
use Rattle.table.specs.declared.entry.Entry.{Entry}
use Rattle.table.specs.Entries.{is_fid, new_entry, has_key, lookup, count_of, fids_in_range}
use Rattle.table.specs.Rising.{order, insert, rising, comes_before, rises}
use Rattle.table.specs.Records.{has_pair, distinct, written_over}
use Rattle.table.proofs.Order.{order_trans, order_key, key_order, order_left, order_right, order_more, order_less, order_eq}
use Rattle.table.proofs.Records.{key_is, key_of, has_pair_is}

-- the three answers of the order

pub is_less : (o : Ordering) → is_lt o ≡ true → o ≡ Less
is_less o h = grind arith

pub less_not : (o : Ordering) → o ≡ Less → o ≡ Equal → ⊥
less_not o h k = grind arith

-- entries of different pairs may be inserted in either order
pub insert_comm : (x y : Entry) (l : List Entry) → (order x y ≡ Equal → ⊥) → insert x (insert y l) ≡ insert y (insert x l)
insert_comm x y [] h = grind (arith, order_less, order_more)
insert_comm x y (z ∷ l) h = grind (arith, insert_comm x y l, order_less, order_more, order_right, order_trans)

-- the later of two of one pair stays
pub insert_insert : (n e : Entry) (l : List Entry) → order n e ≡ Equal → insert n (insert e l) ≡ insert n l
insert_insert n e [] h = grind arith
insert_insert n e (z ∷ l) h = grind (arith, insert_insert n e l, order_left n e z)

-- look-ups

pub look_insert : (e : Entry) (l : List Entry) (f : ℕ) (a : List ℕ) → lookup (insert e l) f a ≡ cond (has_key f a e) (Some e) (lookup l f a)
look_insert e [] f a = refl
look_insert e (x ∷ l) f a = grind (arith, look_insert e l f a, order_key e x, key_order e x, key_is f a e, key_is f a x)

pub look_rising : (l : List Entry) (f : ℕ) (a : List ℕ) → lookup (rising l) f a ≡ lookup l f a
look_rising [] f a = refl
look_rising (e ∷ es) f a = grind (arith, look_insert e (rising es) f a, look_rising es f a)

has_pair_rising : (l : List Entry) (f : ℕ) (a : List ℕ) → has_pair (rising l) f a ≡ has_pair l f a
has_pair_rising l f a = has_pair_is (rising l) f a ∙ ap is_some (look_rising l f a) ∙ sym (has_pair_is l f a)

-- an entry whose pair is not there is not equal in the order to one that is
absent : (e x : Entry) (l : List Entry) → has_pair (x ∷ l) e.key.fid e.key.address ≡ false → order e x ≡ Equal → ⊥
absent e x l h q = grind (arith, order_key e x, key_of e.key.fid e.key.address x)

-- counts

pub count_insert : (g : ℕ) (e : Entry) (l : List Entry) → has_pair l e.key.fid e.key.address ≡ false → count_of g (insert e l) ≡ count_of g (e ∷ l)
count_insert g e [] h = refl
count_insert g e (x ∷ l) h = grind (arith, count_insert g e l, absent e x l)

pub count_rising : (g : ℕ) (l : List Entry) → distinct l ≡ true → count_of g (rising l) ≡ count_of g l
count_rising g [] h = refl
count_rising g (e ∷ es) h = grind (arith, count_rising g es, count_insert g e (rising es), has_pair_rising es e.key.fid e.key.address)

size_insert : (e : Entry) (l : List Entry) → has_pair l e.key.fid e.key.address ≡ false → length (insert e l) ≡ length (e ∷ l)
size_insert e [] h = refl
size_insert e (x ∷ l) h = grind (arith, size_insert e l, absent e x l)

pub size_rising : (l : List Entry) → distinct l ≡ true → length (rising l) ≡ length l
size_rising [] h = refl
size_rising (e ∷ es) h = grind (arith, size_rising es, size_insert e (rising es), has_pair_rising es e.key.fid e.key.address)

-- the list rises

before_same : (e x : Entry) (l : List Entry) → order e x ≡ Equal → comes_before e l ≡ comes_before x l
before_same e x [] h = refl
before_same e x (y ∷ l) h = grind (arith, before_same e x l, order_left e x y)

pub before_far : (e x : Entry) (l : List Entry) → order e x ≡ Less → comes_before x l ≡ true → comes_before e l ≡ true
before_far e x [] h k = refl
before_far e x (y ∷ l) h k = grind (arith, before_far e x l, order_trans e x y)

before_insert : (z e : Entry) (l : List Entry) → order z e ≡ Less → comes_before z l ≡ true → comes_before z (insert e l) ≡ true
before_insert z e [] h k = grind arith
before_insert z e (x ∷ l) h k = grind (arith, before_insert z e l)

pub rises_insert : (e : Entry) (l : List Entry) → rises l ≡ true → rises (insert e l) ≡ true
rises_insert e [] h = refl
rises_insert e (x ∷ l) h = grind (arith, rises_insert e l, before_far e x l, before_same e x l, before_insert x e l, order_more e x)

pub rises_rising : (l : List Entry) → rises (rising l) ≡ true
rises_rising [] = refl
rises_rising (e ∷ es) = rises_insert e (rising es) (rises_rising es)

-- filters

before_kept : (p : Entry → Bool) (e : Entry) (l : List Entry) → comes_before e l ≡ true → comes_before e (filter p l) ≡ true
before_kept p e [] h = refl
before_kept p e (x ∷ l) h = grind (arith, before_kept p e l)

pub rises_kept : (p : Entry → Bool) (l : List Entry) → rises l ≡ true → rises (filter p l) ≡ true
rises_kept p [] h = refl
rises_kept p (x ∷ l) h = grind (arith, rises_kept p l, before_kept p x l)

insert_before : (e : Entry) (l : List Entry) → comes_before e l ≡ true → insert e l ≡ e ∷ l
insert_before e [] h = refl
insert_before e (x ∷ l) h = grind arith

-- a list that rises is its own
pub rising_own : (l : List Entry) → rises l ≡ true → rising l ≡ l
rising_own [] h = refl
rising_own (e ∷ es) h = grind (arith, rising_own es, insert_before e es)

-- an entry that passes is put before or after a filter
pub kept_insert : (p : Entry → Bool) (e : Entry) (l : List Entry) → p e ≡ true → rises l ≡ true → filter p (insert e l) ≡ insert e (filter p l)
kept_insert p e [] h r = grind arith
kept_insert p e (x ∷ l) h r = grind (arith, kept_insert p e l, before_far e x l, before_same e x l, insert_before e (filter p l), before_kept p e l)

-- an entry under a key of its own that does not pass is not seen past a filter
kept_insert_gone : (p : Entry → Bool) (e : Entry) (l : List Entry) → p e ≡ false → has_pair l e.key.fid e.key.address ≡ false → filter p (insert e l) ≡ filter p l
kept_insert_gone p e [] h k = grind arith
kept_insert_gone p e (x ∷ l) h k = grind (arith, kept_insert_gone p e l, absent e x l)

pub kept_rising : (p : Entry → Bool) (l : List Entry) → distinct l ≡ true → filter p (rising l) ≡ rising (filter p l)
kept_rising p [] h = refl
kept_rising p (e ∷ es) h = grind (arith, kept_rising p es, kept_insert p e (rising es), rises_rising es, kept_insert_gone p e (rising es), has_pair_rising es e.key.fid e.key.address)

-- a new entry may stand anywhere
pub rising_in : (l m : List Entry) (x : Entry) → has_pair l x.key.fid x.key.address ≡ false → rising (l ++ x ∷ m) ≡ insert x (rising (l ++ m))
rising_in [] m x h = refl
rising_in (y ∷ l) m x h = grind (arith, rising_in l m x, insert_comm y x (rising (l ++ m)), order_eq y x, absent x y l)

-- an entry is written over the one under its key
pub rising_written : (l : List Entry) (f : ℕ) (a : List ℕ) (p t : ℕ) → has_pair l f a ≡ true → rising (written_over l f a p t) ≡ insert (new_entry f a p t) (rising l)
rising_written [] f a p t h = grind arith
rising_written (e ∷ es) f a p t h =
    let n = new_entry f a p t in
    grind (arith, rising_written es f a p t, insert_insert n e (rising es), insert_comm e n (rising es), key_is f a e, key_of f a e, key_order n e, order_key e n)

-- the databases of a rising list are those of its entries

range_insert : (e : Entry) (l : List Entry) → is_fid e.key.fid ≡ true → fids_in_range l ≡ true → fids_in_range (insert e l) ≡ true
range_insert e [] r h = grind arith
range_insert e (x ∷ l) r h = grind (arith, range_insert e l)

pub range_rising : (l : List Entry) → fids_in_range l ≡ true → fids_in_range (rising l) ≡ true
range_rising [] h = refl
range_rising (e ∷ es) h = grind (arith, range_rising es, range_insert e (rising es))
