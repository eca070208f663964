use Rattle.std.proofs.Common.{◌≡◌, ◌++◌, length, drop, refl, ap₂, arith, rules}
use Rattle.lineup_check.proofs.Copied.{written_fits, written_not}
use Rattle.lineup_check.proofs.Single.{one_listing}
use Rattle.lineup_check.proofs.checking.check_lineup.Goals as goal

pub returns-then-output-len : goal.returns-then-output-len
returns-then-output-len c =
    let text = c.listing_text-text.result.bytes in
    record {
      listed = (text, c.listing_text-text.ensures, written_not text c.args.output.now _ _ (omega arith) refl refl);
      bound = omega arith;
      single = one_listing;
    }

pub returns : goal.returns
returns c =
    let text = c.listing_text-text.result.bytes in
    let out = c.args.output.now in
    let long : c.len-len.result ≡ length text = search rules in
    let copied : c.copy_from_slice.new.self ≡ text = search rules in
    record {
      listed = (text, c.listing_text-text.ensures, written_fits text out _ _ (omega arith) long (ap₂ (λ bs n. bs ++ drop n out) copied long));
      bound = search rules;
      single = one_listing;
    }
