use Rattle.std.proofs.Common.{◌≡◌, length, arith}
use Rattle.std.proofs.lemmas.List.{take_at}
use Rattle.edge_ports.proofs.Serving.{read_serves}
use Rattle.edge_ports.proofs.devices.Devices.read.Goals as goal

pub returns-clause-serves : goal.returns-clause-serves
returns-clause-serves g c =
    let size : length c.take-taken.new.into ≡ c.in_ok-places.places.len = omega arith in
    read_serves c.read_record.result _ _ c.take-taken.new.into _ c.take-taken.result c.take-taken.ensures.takes
    (take_at c.take-taken.new.into _ c.in_ok-places.places.len size)
    c.read_record.ensures.fits.way c.read_record.ensures.fits.size c.read_record.ensures.bytes c.read_record.ensures.answer
