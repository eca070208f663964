use Rattle.std.proofs.Common.{[], ◌∷◌, ◌++◌, vec_items, sym, ap, ◌∙◌}
use Rattle.script.specs.Hex.{halves, spelt}
use Rattle.script.proofs.Halves.{spelt_pair}
use Rattle.script.proofs.hex.pair.Goals as goal

pub returns : goal.returns
returns c =
    let bytes = vec_items c.args.bytes.now in (
      tt,
      ap halves c.in_ok-push.ensures.items ∙ spelt_pair bytes c.in-Some.first c.args.digit c.requires.1
          ∙ ap (λ h. spelt bytes h ++ c.args.digit ∷ []) (sym c.in-Some.is),
    )
