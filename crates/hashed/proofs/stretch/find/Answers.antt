use Rattle.std.proofs.Common.{◌≡◌, ℕ, ◌<◌, min, true, List, length, get_or, Some, None, Option, sym, ap, ◌∙◌, rules}
use Rattle.std.specs.Option.{MatchOption, IsSomeAnd}
use Rattle.std.proofs.lemmas.List.{get_or_default}
use Rattle.table.specs.declared.entry.Entry.{Entry}
use Rattle.table.specs.Entries.{free_entry, has_key, lookup}
use Rattle.table.specs.Calls.{entry_port}
use Rattle.table.specs.Records.{distinct, held_of}
use Rattle.slots.specs.declared.measure.Bounds.{Bounds}
use Rattle.slots.specs.declared.probe.Spot.{Spot}
use Rattle.slots.specs.Hash.{home_of}
use Rattle.slots.specs.Probe.{Found}
use Rattle.hashed.specs.Stretch.{Kept}
use Rattle.hashed.proofs.Held.{hit_look}
use Rattle.hashed.proofs.Kept.{absent}
use Rattle.hashed.proofs.stretch.find.Goals as goal

-- where the search found a record, r is the number that P gives of it
port_found : (xs : List Entry) (f : ℕ) (a : List ℕ) (b : Bounds) (o : Option Spot) (r : Option ℕ) (P : Spot → ℕ → Type 0) → Kept f xs b → distinct (held_of xs) ≡ true → Found (has_key f a) xs (home_of (length xs) f a) (min b.reach (length xs)) o → MatchOption o (r ≡ None) (λ s. IsSomeAnd r (P s)) → ((s : Spot) (n : ℕ) → s.at < length xs → P s n → n ≡ (get_or xs s.at free_entry).port) → r ≡ entry_port (lookup (held_of xs) f a)
port_found xs f a b None r P k d h m port = m ∙ sym (ap entry_port (absent xs f a b k h))
port_found xs f a b (Some s) None P k d h m port = absurd m
port_found xs f a b (Some s) (Some n) P k d h m port = ap Some (port s n h.2 m) ∙ sym (ap entry_port (hit_look xs s.at f a d k.low h.2 h.3))

pub returns : goal.returns
returns c = port_found c.args.records.now c.args.key.fid c.args.key.address c.args.bounds c.place.result c.map.result _ c.requires.kept c.requires.apart c.place.ensures c.map.ensures.cases (λ s n lt p. search (rules, get_or_default))
