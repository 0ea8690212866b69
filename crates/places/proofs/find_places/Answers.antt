use Rattle.places.proofs.Laws.{found_of}
use Rattle.places.proofs.find_places.Goals as goal

pub returns : goal.returns
returns c =
    (c.take_batch.ensures, found_of c.requires.4 c.give_batch.ensures c.power_up.ensures c.requires.1.frees c.first_places-firsts.ensures)
