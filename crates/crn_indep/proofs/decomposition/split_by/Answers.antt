use Rattle.crn_indep.proofs.Prelude.{IsShown, Split, valid_are_true}
use Rattle.crn_indep.proofs.Splits.{form_by, even_by, linked_by}
use Rattle.crn_indep.proofs.decomposition.split_by.Goals as goal

pub returns : goal.returns
returns c =
    let net = c.args.net.now in
    let proof = c.args.proof in
    let arcs = c.in_ok-arcs.arcs.items in
    let ties = c.in_ok-arcs.ensures.ties in
    let found = c.in_ok-found.found in
    let joined = rw c.reactions.ensures.count at c.in_ok-found.ensures in
    let formed = form_by net proof arcs found.count found.label.list found.up.list found.depth.list c.meets_definition.ensures c.requires ties joined in
    let valid : IsShown net proof found.label.list found.up.list found.depth.list = record {
      ranks = c.requires.holds 1;
      even = even_by net proof arcs found.count found.label.list found.up.list found.depth.list ties joined;
      linked = linked_by net proof arcs found.count found.label.list found.up.list found.depth.list ties joined;
    } in
    record { formed = formed; valid = valid; true_of = valid_are_true net (Split proof found.label found.up found.depth) c.meets_definition.ensures formed valid; licensed = tt }
