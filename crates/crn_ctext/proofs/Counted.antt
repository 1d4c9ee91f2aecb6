-- What a sink that counts says of a text that was written to it.
use Rattle.crn_ctext.proofs.Prelude.{◌≡◌, ◌<◌, ◌≤◌, ◌^◌, ◌-◌, ℕ, List, length, Result, Ok, Err, arith, Wrote, MAX_DOCUMENT, counter_seen, some_is}

-- the count is the length of a text that is short, whatever the call answered
pub counted : {T E : Type 0} (text : List ℕ) (count faults : ℕ) (r : Result T E) → count < 2 ^ 64 → length text < MAX_DOCUMENT → Wrote text (counter_seen 0 0) (counter_seen count faults) r → count ≡ length text
counted text count faults (Ok a) range short wrote =
    let room : length text ≤ 2 ^ 64 - 1 - 0 = omega arith in
    let e = some_is (2 ^ 64 - 1 - count) (2 ^ 64 - 1 - 0 - length text) wrote.all.fits.1 in
    omega (arith, e, range, short)
counted text count faults (Err a) range short wrote = let none : 2 ^ 64 - 1 - 0 < length text = wrote.prefix.no_room in absurd (omega (arith, none, short))
