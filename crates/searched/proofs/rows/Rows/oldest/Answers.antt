use Rattle.std.proofs.Common.{rules, sym, ap, ◌∙◌}
use Rattle.std.proofs.lemmas.Iterator.{YieldsList-from_map, YieldsList-from_slice}
use Rattle.std.proofs.lemmas.Iterator.Adapters.{option_map_id}
use Rattle.std.proofs.lemmas.Iterator.Consumers.{YieldsList-at, min_from_yields_List}
use Rattle.std.specs.Option.{unwrap_or}
use Rattle.table.specs.declared.entry.Entry.{Entry}
use Rattle.searched.specs.Records.{taken}
use Rattle.searched.proofs.Oldest.{oldest_least}
use Rattle.searched.proofs.rows.Rows.oldest.Goals as goal

pub returns : goal.returns
returns c = oldest_least _ _ c.unwrap_or.type_inv (c.unwrap_or.ensures ∙ ap (λ o. unwrap_or o 18446744073709551615) (sym (option_map_id _) ∙ min_from_yields_List c.map.result c.min.result c.min.ensures.ran
    (YieldsList-from_map _ (λ (e : Entry). e.heard) (YieldsList-at c.map.ensures.source (YieldsList-from_slice (taken c.args.self.now) (cc))) c.map.ensures.closure (λ x r q k. search rules))))
