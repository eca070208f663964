use Rattle.std.proofs.Common.{◌∙◌, arith}
use Rattle.std.proofs.ByRecursion.{All-get_or}
use Rattle.std.proofs.lemmas.Bool.{and_from, le-leb, lt-ltb}
use Rattle.format.specs.Encoding.{FieldFits}
use Rattle.writer.proofs.Filling.{fill_none, fill_more, fill_within, fill_all}
use Rattle.writer.proofs.pack.pack_fields.Goals as goal

pub loop-width-init : goal.loop-width-init
loop-width-init g c = fill_none c.args.bytes.now c.args.fields.now (λ k. (c.type_inv.bytes k).fits)

pub overflow_add-offset : goal.overflow_add-offset
overflow_add-offset g c =
    let bits = fill_within c.args.bytes.now c.loop-width.bytes c.args.fields.now c.loop-width.width-index c.loop-width.offset (0, 0) (omega arith) c.loop-width.invariant in
    omega arith

pub loop-width-preserved : goal.loop-width-preserved
loop-width-preserved g c =
    let old = c.args.bytes.now in
    let fields = c.args.fields.now in
    let i = c.loop-width.width-index in
    let o = c.loop-width.offset in
    let sized = All-get_or FieldFits fields i (0, 0) (omega arith) c.requires.0 in
    let bits = fill_within old c.loop-width.bytes fields i o (0, 0) (omega arith) c.loop-width.invariant in
    let written = c.pack_field.ensures.answer ∙ and_from _ _ (le-leb _ _ sized.1) (and_from _ _ (le-leb _ _ (omega arith)) (lt-ltb _ _ sized.2)) in
    fill_more old c.loop-width.bytes c.pack_field.new.bytes fields i o (0, 0) (omega arith) c.loop-width.invariant
    (c.pack_field.ensures.packed written) (λ k. (c.type_inv.bytes k).fits)

pub returns : goal.returns
returns g c =
    fill_all c.args.bytes.now c.loop-width.bytes c.args.fields.now c.loop-width.width-index c.loop-width.offset g.size
    (omega arith) c.requires.1.0.0 c.requires.1.1 c.loop-width.invariant
