use Rattle.crn_text.proofs.Prelude.{codes, Decides-eqb, strip_prefix_is, strip_suffix_is}
use Rattle.crn_text.proofs.ArrowSplit.{splits_none, splits_stray, splits_arrow, splits_both, splits_back}
use Rattle.crn_text.proofs.arrow.split_arrow.Goals as goal

pub returns-in_default : goal.returns-in_default
returns-in_default c = splits_none c.args.text.now c.split_at_byte.result.0.now (rw c.in_default.is at c.split_at_byte.ensures)

pub returns-in-Some-Some : goal.returns-in-Some-Some
returns-in-Some-Some c =
    let left = rw c.in-Some-Some.is-0 at (strip_suffix_is Decides-eqb c.split_at_byte.result.0.now (codes "<") c.strip_suffix.result c.strip_suffix.ensures.cases) in
    let right = rw c.in-Some-Some.is-1 at (strip_prefix_is Decides-eqb c.in-Some.back.now (codes ">") c.strip_prefix.result c.strip_prefix.ensures.cases) in
    splits_both c.args.text.now c.split_at_byte.result.0.now c.in-Some-Some.side.now c.in-Some.back c.in-Some-Some.rest (rw c.in-Some.is at c.split_at_byte.ensures) left right

pub returns-in-Some-None : goal.returns-in-Some-None
returns-in-Some-None c =
    let left = rw c.in-Some-None.is-0 at (strip_suffix_is Decides-eqb c.split_at_byte.result.0.now (codes "<") c.strip_suffix.result c.strip_suffix.ensures.cases) in
    let right = rw c.in-Some-None.is-1 at (strip_prefix_is Decides-eqb c.in-Some.back.now (codes ">") c.strip_prefix.result c.strip_prefix.ensures.cases) in
    splits_back c.args.text.now c.split_at_byte.result.0.now c.in-Some-None.side.now c.in-Some.back (rw c.in-Some.is at c.split_at_byte.ensures) left right

pub returns-in-None-Some : goal.returns-in-None-Some
returns-in-None-Some c =
    let left = rw c.in-None-Some.is-0 at (strip_suffix_is Decides-eqb c.split_at_byte.result.0.now (codes "<") c.strip_suffix.result c.strip_suffix.ensures.cases) in
    let right = rw c.in-None-Some.is-1 at (strip_prefix_is Decides-eqb c.in-Some.back.now (codes ">") c.strip_prefix.result c.strip_prefix.ensures.cases) in
    splits_arrow c.args.text.now c.split_at_byte.result.0.now c.in-Some.back c.in-None-Some.rest (rw c.in-Some.is at c.split_at_byte.ensures) left right

pub returns-in-None-None : goal.returns-in-None-None
returns-in-None-None c =
    let left = rw c.in-None-None.is-0 at (strip_suffix_is Decides-eqb c.split_at_byte.result.0.now (codes "<") c.strip_suffix.result c.strip_suffix.ensures.cases) in
    let right = rw c.in-None-None.is-1 at (strip_prefix_is Decides-eqb c.in-Some.back.now (codes ">") c.strip_prefix.result c.strip_prefix.ensures.cases) in
    splits_stray c.args.text.now c.split_at_byte.result.0.now c.in-Some.back (rw c.in-Some.is at c.split_at_byte.ensures) left right
