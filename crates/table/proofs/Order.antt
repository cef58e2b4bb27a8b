-- The order of entries is a total order on pairs of FID and address.
use Rattle.std.proofs.Common.{◌≡◌, Less, Equal, Greater, ap, ◌∙◌}
use Rattle.std.specs.Ordering.{nat_cmp, ordering_reverse}
use Rattle.std.specs.Cmp.{IsTotalOrder}
use Rattle.std.specs.Cmp.Lexicographic.{on_texts, slice_cmp}
use Rattle.std.proofs.lemmas.Cmp.{alike_right, nat_cmp_total, on_total, then_total, tied_itself}
use Rattle.std.proofs.lemmas.Map.Lookups.{exact_bytes, exact_pairs, exact_unsigned}
use Rattle.table.specs.declared.entry.Entry.{Entry}
use Rattle.table.specs.Rising.{order}

pub order_total : IsTotalOrder order
unfolding order
order_total = then_total (on_total (λ e. e.key.fid) nat_cmp_total) (on_texts (λ e. e.key.address))

pub order_flip : (x y : Entry) → order y x ≡ ordering_reverse (order x y)
order_flip x y = order_total.antisymm y x

pub order_trans : (x y z : Entry) → order x y ≡ Less → order y z ≡ Less → order x z ≡ Less
order_trans = order_total.trans

-- entries are equal in the order exactly where they stand under one key
pub order_key : (x y : Entry) → order x y ≡ Equal → (x.key.fid ≡ y.key.fid) × (x.key.address ≡ y.key.address)
unfolding order
order_key x y h =
    let e = exact_pairs nat_cmp (slice_cmp nat_cmp) exact_unsigned exact_bytes (x.key.fid, x.key.address) (y.key.fid, y.key.address) h in
    (ap (λ p. p.0) e, ap (λ p. p.1) e)

pub key_order : (x y : Entry) → x.key.fid ≡ y.key.fid → x.key.address ≡ y.key.address → order x y ≡ Equal
unfolding order
key_order x y p q = rw (p, q) (tied_itself order_total y)

-- an order depends on the keys alone
pub order_left : (x y z : Entry) → order x y ≡ Equal → order x z ≡ order y z
order_left = order_total.congr

pub order_right : (x y z : Entry) → order x y ≡ Equal → order z x ≡ order z y
order_right = alike_right order_total

pub order_more : (x y : Entry) → order x y ≡ Greater → order y x ≡ Less
order_more x y h = order_flip x y ∙ ap ordering_reverse h

pub order_less : (x y : Entry) → order x y ≡ Less → order y x ≡ Greater
order_less x y h = order_flip x y ∙ ap ordering_reverse h

pub order_eq : (x y : Entry) → order x y ≡ Equal → order y x ≡ Equal
order_eq x y h = order_flip x y ∙ ap ordering_reverse h
