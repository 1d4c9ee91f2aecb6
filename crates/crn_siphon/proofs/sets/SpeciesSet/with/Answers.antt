use Rattle.crn_siphon.proofs.Prelude.{w64, sym, ◌∙◌, bit_at_set_same, bit_at_set_other}
use Rattle.crn_siphon.proofs.sets.SpeciesSet.with.Goals as goal

pub returns : goal.returns
returns c = record {
  here = bit_at_set_same w64 _ _ c.requires;
  others = λ j ne. (λ h. sym (bit_at_set_other w64 _ _ c.requires j ne) ∙ h, λ h. bit_at_set_other w64 _ _ c.requires j ne ∙ h);
}
