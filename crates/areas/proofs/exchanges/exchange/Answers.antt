use Rattle.areas.proofs.Parts.{exchanged_halves}
use Rattle.areas.proofs.exchanges.exchange.Goals as goal

pub returns : goal.returns
returns g c =
    let cut = c.split_at_mut-front.ensures in
    let swapped = c.swap_with_slice.ensures in
    exchanged_halves _ _ _ _ _ _ _ _ cut.front cut.back swapped.after swapped.other_after c.requires.0 c.requires.1
