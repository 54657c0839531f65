use Rattle.outside_ports.proofs.Fronts.{read_there}
use Rattle.outside_ports.proofs.front.read_chunk.Goals as goal

pub returns-in-Ok-clause-file_exists : goal.returns-in-Ok-clause-file_exists
returns-in-Ok-clause-file_exists g c =
    read_there (g.H.Shelf.known_files c.args.shelf.now) c.args.name.now c.args.at c.read.new.buf c.in-Ok.count
    c.in-Ok.ensures.bytes
