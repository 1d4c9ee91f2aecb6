use Rattle.crn_ctext.proofs.Prelude.{ℕ, List, [], ◌∷◌, refl, ap, arith, ClassWide, just}
use Rattle.crn_ctext.proofs.Forms.{given_back}
use Rattle.crn_ctext.proofs.record_heads.deficiency_head.Goals as goal

pub returns-in-1 : goal.returns-in-1
returns-in-1 c = rw c.in-1.is (
  omega arith,
  record {
    words = refl;
    others = refl;
    fields = ap (λ (rs : List ℕ). just 3 ∷ ClassWide c.args.sizes.now.species rs ∷ []) (given_back c.args.sizes.now.class_reactions.now);
    bounds = ((omega arith, omega arith), ((c.requires.species, c.requires.classes, c.requires.each), tt));
    few = (let few = c.requires.species in omega (arith, few));
  },
  refl,
  omega arith,
)
