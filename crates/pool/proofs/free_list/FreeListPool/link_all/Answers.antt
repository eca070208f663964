use Rattle.std.proofs.Common.{◌≡◌, ◌+◌, true, set, sym, refl, ap, ◌∙◌, arith}
use Rattle.sets.specs.Sets.{member, full}
use Rattle.pool.proofs.Lists.{first_of, first_none, first_absent, first_more, first_all}
use Rattle.pool.proofs.free_list.FreeListPool.link_all.Goals as goal

pub loop-block-init : goal.loop-block-init
loop-block-init c = (refl, c.requires ∙ sym (first_none c.args.self.now.blocks))

pub link-requires : goal.link-requires
link-requires c = record {
  within = omega arith;
  taken = ap (λ free. member free c.loop-block.block) c.loop-block.invariant.1 ∙ first_absent c.loop-block.self.blocks c.loop-block.block;
}

pub loop-block-preserved : goal.loop-block-preserved
loop-block-preserved c =
    let block = c.loop-block.block in
    let blocks = c.loop-block.self.blocks in
    let same = c.link.ensures.same in (
      same ∙ c.loop-block.invariant.0,
      c.link.ensures.after ∙ ap (λ free. set free block true) c.loop-block.invariant.1 ∙ first_more blocks block (omega arith)
          ∙ ap (λ n. first_of n (block + 1)) (sym same),
    )

pub returns : goal.returns
returns c =
    let blocks = c.loop-block.self.blocks in
    let all : c.loop-block.block ≡ blocks = omega arith in
    c.loop-block.invariant.1 ∙ ap (first_of blocks) all ∙ first_all blocks ∙ ap full c.loop-block.invariant.0
