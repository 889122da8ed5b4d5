-- the services of a node
use Rattle.std.specs.Prelude.{ℕ, ◌==◌, if◌then◌else◌, Option, Some, None}
use Rattle.csp_service.specs.declared.service.Service.{Service}
use Rattle.csp_service.specs.declared.service.Service.TheVariants.{Cmp, Ping, FreeMemory, Reboot, Uptime}

-- the service at a port
abbrev pub service_at : ℕ → Option Service
service_at port =
    if port == 0 then Some Cmp
    else if port == 1 then Some Ping
    else if port == 3 then Some FreeMemory
    else if port == 4 then Some Reboot
    else if port == 6 then Some Uptime
    else None
