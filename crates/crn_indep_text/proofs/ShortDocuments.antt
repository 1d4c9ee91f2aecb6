-- Documents of answers are short.
use Rattle.crn_indep_text.proofs.Prelude.{◌≤◌, length, map, refl, arith, codes, length-append, length-map, length-range_with_len, Net, IsNetwork, one_word, rank_records, part_document_short, Parts, Split, Wide, IsFormedParts, link_records, records, WrittenAreDocuments}
use Rattle.crn_indep_text.proofs.Answered.{parts_is_answered, records_plain}

few_records : (net : Net) (answer : Parts) → IsNetwork net → IsFormedParts net answer → length (records answer) ≤ 400000
few_records net (Split proof label up depth) w f =
    let p = f.proof_is in
    let duals = p.duals.long in
    let combs = p.combs.long in
    let bounds = f.rank_is in
    omega (
      arith,
      length-append (rank_records proof) (link_records label.list up.list depth.list),
      length-append (map (one_word (codes "dual")) proof.duals) (map (one_word (codes "comb")) proof.combs),
      length-map proof.duals (one_word (codes "dual")),
      length-map proof.combs (one_word (codes "comb")),
      duals,
      combs,
      length-range_with_len 1 (length net.reactions),
      bounds.1,
      w.partial.reactions_limit,
    )
few_records net (Wide index basis) w f = omega arith

pub written_are_documents : WrittenAreDocuments
written_are_documents = λ net answer network formed valid.
    let title = parts_is_answered.title in
    record { short = part_document_short (codes "parts") net (records answer) title network (records_plain net answer network formed) (few_records net answer network formed); network = network; formed = formed; valid = valid; is = refl }
