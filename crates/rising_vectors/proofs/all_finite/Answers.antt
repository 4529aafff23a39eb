-- `rising_vectors::all_finite` meets its contract. Assumes nothing.
use Rattle.std.proofs.Common.{◌≡◌, ◌∙◌, rules, tests}
use Rattle.std.specs.List.{list_all}
use Rattle.std.proofs.lemmas.Iterator.Search.{all_from_yields_List}
use Rattle.std.proofs.lemmas.Iterator.{YieldsList-from_slice}
use Rattle.model.specs.Floats.{finite}
use Rattle.model.proofs.ListLaws.{all_is_list_all}
use Rattle.rising_vectors.proofs.all_finite.Goals as goal

pub returns : goal.returns
returns c = let r : c.all.result ≡ list_all finite c.args.values.now =
    all_from_yields_List finite _ _ c.all.result c.all.ensures.ran (YieldsList-from_slice c.args.values.now (cc)) (λ x b q k. search (rules, tests)) in
    r ∙ all_is_list_all finite c.args.values.now
