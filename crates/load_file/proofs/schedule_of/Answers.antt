use Rattle.load_file.proofs.Filling.{empty_route_is, alone_made}
use Rattle.load_file.proofs.schedule_of.Goals as goal

pub returns : goal.returns
returns c =
    let h = c.default-routes.ensures in
    let e = empty_route_is c.default-routes.result h.0.at h.0.long h.1 in
    rw e (alone_made c.args.c c.numbered.result c.numbers.result c.well_formed.0.1.1.0.1.0.1 c.requires c.numbered.ensures c.numbers.ensures)
