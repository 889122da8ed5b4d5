use Rattle.std.proofs.Common.{◌≡◌, take}
use Rattle.csp_rdp_window.specs.Sending.{listed, newest_of, without_listed}
use Rattle.csp_rdp_window.proofs.send.SendWindow.free_listed.Given as goal

abbrev pub invariant-loop-number : goal.invariant-loop-number
invariant-loop-number l =
    let ts = listed l.fn.self (take l.number-index l.list) in
    (l.newest ≡ newest_of ts) × (l.self ≡ without_listed ts l.fn.self)
