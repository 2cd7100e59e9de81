use Rattle.std.proofs.Common.{◌≡◌, ◌+◌, ◌*◌, ◌/◌, ◌%◌, ◌<◌, get_or, ap, ◌∙◌, arith, w8}
use Rattle.std.proofs.lemmas.Simd.{Each1-from_get_or, SwzOk-from_below, get_or-swz_l_below}
use Rattle.np_tables.proofs.doubtful_leads.look_up.Goals as goal

pub swizzle : goal.swizzle
swizzle c =
    let places = c.args.places in
    SwzOk-from_below w8 16 4 64 0 places (omega arith) (omega (arith, c.fits-places.0)) (Each1-from_get_or (λ j. j < 16) places 0 (λ k lt. c.requires k (omega (arith, lt, c.fits-places.0))))

pub returns : goal.returns
returns c = λ k lt.
    let places = c.args.places in
    let place = get_or places k 0 in
    let below = c.requires k lt in
    let same : (16 * ((0 + k) / 16) + place) % 16 ≡ place = omega (arith, below) in
    get_or-swz_l_below w8 16 c.four_times.result 0 places k (omega (arith, lt, c.fits-places.0)) below
    ∙ c.four_times.ensures (16 * ((0 + k) / 16) + place) (omega (arith, below, lt)) ∙ ap (λ n. get_or c.args.row n 0) same
