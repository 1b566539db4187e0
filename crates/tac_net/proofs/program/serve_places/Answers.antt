use denote.Param.{param}
use denote.Param.Send.{IsSync, sendable}
use Rattle.std.proofs.Common.{arith}
use Rattle.std.proofs.Crossing.{crosses}
use Rattle.tac_hall.specs.contracts.hall.Hall as Hall
use Rattle.tac_hall.proofs.hall.Hall.TheSendSync as shared
use Rattle.tac_net.specs.Connections.{HasServed}
use Rattle.tac_net.proofs.Crossing.{Counts-sync, Hashing-sync, Intake-sync, Listeners-sync, Settings-sync, Vigil-sync}
use Rattle.tac_net.proofs.FitFacts.{each_served_so}
use Rattle.tac_net.proofs.ServingFacts.{ok_both}
use Rattle.tac_net.proofs.program.serve_places.Goals as goal

-- what the closure lends to each thread, one capture after another; no search gets through them
-- together
pub map_vec-requires-sync-F : goal.map_vec-requires-sync-F
map_vec-requires-sync-F g c κs within =
    let runtime = c.type_bounds.sync-R in
    let desk : IsSync (Hall.the_row (param 1 g.row.J) (param 2 g.row.D) g.J.Run g.D.Desk) = search (shared.the_sync, c.type_bounds.send-J, c.type_bounds.sync-J, c.type_bounds.send-D, crosses, sendable) depth 60 fits 20000 in
    let log = c.type_bounds.sync-L in
    record {
      shared = λ d b o κ. (
        (
          (λ q. tt, runtime.shared d.0.now d.0.ref_ptr.0 d.0.ref_ptr.1 _),
          (
            (λ q. tt, Listeners-sync.shared d.1.now d.1.ref_ptr.0 d.1.ref_ptr.1 _),
            (
              (λ q. tt, desk.shared d.2.now d.2.ref_ptr.0 d.2.ref_ptr.1 _),
              (
                (λ q. tt, Settings-sync.shared d.3.now d.3.ref_ptr.0 d.3.ref_ptr.1 _),
                (
                  (λ q. tt, Vigil-sync.shared d.4.now d.4.ref_ptr.0 d.4.ref_ptr.1 _),
                  (
                    (λ q. tt, Intake-sync.shared d.5.now d.5.ref_ptr.0 d.5.ref_ptr.1 _),
                    (
                      (λ q. tt, Hashing-sync.shared d.6.now d.6.ref_ptr.0 d.6.ref_ptr.1 _),
                      (
                        (λ q. tt, log.shared d.7.now d.7.ref_ptr.0 d.7.ref_ptr.1 _),
                        (
                          (λ q. tt, Counts-sync.shared d.8.now d.8.ref_ptr.0 d.8.ref_ptr.1 _),
                          tt,
                        ),
                      ),
                    ),
                  ),
                ),
              ),
            ),
          ),
        ),
        λ q. tt,
      );
    }

pub returns : goal.returns
returns g c =
    ok_both c.map_vec.result (λ served same each.
    each_served_so (λ place. place.seat) (HasServed g.J.Run.opening c.args.premises.now.settings.now.callers (g.L.Log.keeping c.args.premises.now.log.now) c.args.premises.now.settings.now.connections) c.args.places.items served.items
    (omega (arith, same, served.ok.0, c.args.places.ok.0))
    (λ i d h. let job = (each i d h).1 in (job.job, job.job_read, job.call.met)))
    c.map_vec.ensures.len c.map_vec.ensures.each
