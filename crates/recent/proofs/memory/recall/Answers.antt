use Rattle.std.proofs.Common.{◌≡◌, rules, ap, ◌∙◌}
use Rattle.std.specs.Option.{option_map, option_to_list}
use Rattle.std.proofs.lemmas.Iterator.{YieldsList-from_slice}
use Rattle.std.proofs.lemmas.Iterator.Consumers.{YieldsList-at}
use Rattle.std.proofs.lemmas.Iterator.Adapters.{YieldsList-from_flatten}
use Rattle.std.proofs.lemmas.Iterator.Search.{find_from_yields_List}
use Rattle.recent.specs.Remembered.{is_for, recalled}
use Rattle.recent.proofs.Options.{option_gives}
use Rattle.recent.proofs.Rights.{recalled_find, recalled_right}
use Rattle.recent.proofs.memory.recall.Goals as goal

pub returns : goal.returns
returns c =
    let f = c.args.key.fid in
    let a = c.args.key.address in
    let found = find_from_yields_List (is_for f a) _ _ c.find.result c.find.ensures.ran (YieldsList-from_flatten _ _ (λ y. y.now) option_to_list (λ x j b. option_gives j x.now b.0 b.1) (YieldsList-at c.flatten.ensures.source (YieldsList-from_slice c.args.slots.now cc)) c.flatten.ensures.front c.flatten.ensures.back c.flatten.ensures.done) (λ x b q k. search rules) in
    let port : c.map.result ≡ option_map (λ m. m.port) (option_map (λ y. y.now) c.find.result) = search rules in
    let answer : c.map.result ≡ recalled c.args.slots.now f a = port ∙ ap (option_map (λ m. m.port)) found ∙ recalled_find c.args.slots.now f a in
    record { answer = answer; right = λ l r. recalled_right l c.args.slots.now f a c.map.result answer r }
