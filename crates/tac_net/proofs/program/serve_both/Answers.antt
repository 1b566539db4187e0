use mir.Syntax.{of_param}
use denote.Param.{param}
use base.Fraction.{full_share}
use denote.Param.Send.{IsSync, sendable, part_keyless, Quiet-if}
use Rattle.std.proofs.Crossing.{crosses}
use Rattle.tac_hall.specs.contracts.hall.Hall as Hall
use Rattle.tac_hall.proofs.hall.Hall.TheSendSync as shared
use Rattle.tac_net.proofs.Crossing.{Counts-sync, Hashing-sync, Intake-sync, Listeners-sync, Settings-sync, Vigil-sync}
use Rattle.tac_net.proofs.program.serve_both.Goals as goal

pub join_mut-requires-send-F : goal.join_mut-requires-send-F
join_mut-requires-send-F g c κs within =
    let waiting = c.type_bounds.send-P in
    let runtime = c.type_bounds.sync-R in
    let desk : IsSync (Hall.the_row (param 1 g.row.J) (param 2 g.row.D) g.J.Run g.D.Desk) = search (shared.the_sync, c.type_bounds.send-J, c.type_bounds.sync-J, c.type_bounds.send-D, crosses, sendable) depth 60 fits 20000 in
    let log = c.type_bounds.sync-L in
    record {
      owned = λ d vs vss. (
        tt,
        (
          (tt, (tt, λ y. (part_keyless _ waiting full_share y d.0.ref_ptr.0 d.0.ref_ptr.1, tt))),
          (
            (tt, runtime.shared d.1.now d.1.ref_ptr.0 d.1.ref_ptr.1 _),
            (
              (tt, Listeners-sync.shared d.2.now d.2.ref_ptr.0 d.2.ref_ptr.1 _),
              (
                (tt, desk.shared d.3.now d.3.ref_ptr.0 d.3.ref_ptr.1 _),
                (
                  (tt, Settings-sync.shared d.4.now d.4.ref_ptr.0 d.4.ref_ptr.1 _),
                  (
                    (tt, Vigil-sync.shared d.5.now d.5.ref_ptr.0 d.5.ref_ptr.1 _),
                    (
                      (tt, Intake-sync.shared d.6.now d.6.ref_ptr.0 d.6.ref_ptr.1 _),
                      (
                        (tt, Hashing-sync.shared d.7.now d.7.ref_ptr.0 d.7.ref_ptr.1 _),
                        (
                          (tt, log.shared d.8.now d.8.ref_ptr.0 d.8.ref_ptr.1 _),
                          (
                            (tt, Counts-sync.shared d.9.now d.9.ref_ptr.0 d.9.ref_ptr.1 _),
                            tt,
                          ),
                        ),
                      ),
                    ),
                  ),
                ),
              ),
            ),
          ),
        ),
      );
      leaving = λ k. Quiet-if (k (of_param 1)) _ _ (λ x w. (tt, tt)) (λ x w. tt);
    }
