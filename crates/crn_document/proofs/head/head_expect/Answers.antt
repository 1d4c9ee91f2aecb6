use Rattle.crn_document.proofs.Prelude.{refl, sym, ap, List, [], ◌∷◌, length, ◌∙◌, pos, Form, place_of, known_sizes, given_back, known_of}
use Rattle.crn_ctext.specs.Expect.{sizes_of}
use Rattle.crn_document.proofs.Heads.{heads_by_sizes, number_of_built}
use Rattle.crn_document.proofs.head.head_expect.Goals as goal

pub returns-clause-due : goal.returns-clause-due
returns-clause-due c = λ earlier fits signals.
    let z = c.head_sizes-sizes.ensures in
    let same = heads_by_sizes c.args.question c.requires.built (sizes_of c.head_sizes-sizes.result) (known_sizes (known_of c.args.net.now earlier)) z.species z.complexes z.reactions (λ e. given_back c.head_sizes-sizes.result.class_reactions.now ∙ z.classes ∙ (let f = fits.are in f e)) (λ a. ap length z.classes ∙ (let f = fits.many in f a)) (λ e t. z.pairs ∙ (let p = signals.pairs in p e (sym z.vector ∙ t))) (λ e. z.vector ∙ (let v = signals.vector in v e)) in record {
      may = record { version = c.requires.version; sizes = z.within; due = number_of_built c.args.question c.requires.built };
      of_version = refl;
      by_tree = refl;
      has = same;
      misplaced = refl;
    }

pub returns-clause-tag : goal.returns-clause-tag
returns-clause-tag c = λ earlier r fits signals.
    let z = c.head_sizes-sizes.ensures in
    let same = heads_by_sizes c.args.question c.requires.built (sizes_of c.head_sizes-sizes.result) (known_sizes (known_of c.args.net.now earlier)) z.species z.complexes z.reactions (λ e. given_back c.head_sizes-sizes.result.class_reactions.now ∙ z.classes ∙ (let f = fits.are in f e)) (λ a. ap length z.classes ∙ (let f = fits.many in f a)) (λ e t. z.pairs ∙ (let p = signals.pairs in p e (sym z.vector ∙ t))) (λ e. z.vector ∙ (let v = signals.vector in v e)) in
    ap (λ (fs : List Form). pos (place_of fs r.words) ∷ []) same
