-- Records that fit the forms of a question, and after which no tree is due, are those of a formed answer.
use Rattle.crn_ctext.proofs.Prelude.{◌≡◌, ◌∙◌, List, [], ◌∷◌, sym, ap₂, subst, AllZip, Verdict, Proof, Question, TreeRow, trees, Block, FitsTree, proof_of, IsFormedOf, Record, Fits, heads, Problem, below, IsOneOf, Known, sizes_of, shapes_of, said_verdict, said_proof, meaning}
use Rattle.crn_cert.specs.Blocks.{verdict_of}
use Rattle.crn_ctext.proofs.RecordsTyped.{records_are_blocks}
use Rattle.crn_ctext.proofs.BlocksFormed.{AreLike, answers_formed, trees_due}
use Rattle.crn_ctext.proofs.BlocksSaid.{block_said}
use Rattle.crn_ctext.proofs.BlocksShown.{block_shown}

-- trees like no problems are none
none_like : (ts : List TreeRow) (ws : List {1} Problem) → ws ≡ [] → AreLike ts ws → ts ≡ []
none_like [] ws e l = cc
none_like (t ∷ ts) [] e l = absurd l
none_like (t ∷ ts) (w ∷ ws) e l = absurd cc

pub records_formed : (known : Known) (q : Question) (h : Record) (rs : List Record) → IsOneOf (heads q (sizes_of known)) h → AllZip Fits (below q (shapes_of known) h) rs → meaning.problems q known h ≡ []
    → IsFormedOf known.net known.earlier q (said_verdict q (sizes_of known) h rs) (said_proof q (shapes_of known) h rs)
records_formed known q h rs one fit none =
    let b = records_are_blocks known q h rs one fit in
    let kind = b.kind in
    let head = b.head in
    let rows = b.rows in
    let head_fits = b.head_fits in
    let rows_fit = b.rows_fit in
    let like = subst (λ (h : Record). AreLike (trees known.net known.earlier q kind) (meaning.problems q known h)) (sym b.head_is) (trees_due known q kind head head_fits) in
    let due : trees known.net known.earlier q kind ≡ [] = none_like (trees known.net known.earlier q kind) (meaning.problems q known h) none like in
    let whole : Block = record { kind = kind; head = head; rows = rows; trees = [] } in
    let formed = answers_formed known q whole (record { head = head_fits; rows = rows_fit; trees = subst (λ (ts : List TreeRow). AllZip FitsTree ts []) (sym due) tt }) in
    let says : said_verdict q (sizes_of known) h rs ≡ verdict_of kind head rows = ap₂ (λ (h : Record) (rs : List Record). said_verdict q (sizes_of known) h rs) b.head_is b.rows_are ∙ block_said known q kind head rows head_fits rows_fit in
    let shows : said_proof q (shapes_of known) h rs ≡ proof_of known.net known.earlier q kind head rows [] = ap₂ (λ (h : Record) (rs : List Record). said_proof q (shapes_of known) h rs) b.head_is b.rows_are ∙ block_shown known q kind head rows head_fits rows_fit in
    subst (λ (v : Verdict). IsFormedOf known.net known.earlier q v (said_proof q (shapes_of known) h rs)) (sym says) (subst (λ (p : Proof). IsFormedOf known.net known.earlier q (verdict_of kind head rows) p) (sym shows) formed)
