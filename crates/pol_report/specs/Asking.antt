-- Which of the services that two policies name are asked about for a user.
use Rattle.std.specs.Prelude.{◌≡◌, ℕ, Bool, false, List, ◌++◌, Option, None, Some}
use Rattle.std.specs.Prelude.{slice_get, position}
use Rattle.std.specs.Hash as fed
use Rattle.pol_names.specs.SameService.{same_service}
use Rattle.pol_names.specs.declared.service.ServiceId.{ServiceId}
use Rattle.pol_meaning.specs.declared.ServiceChange.{ServiceChange}

-- what the hash of a service is made of
abbrev pub service_input : ServiceId → fed.HashWrites
service_input service =
    fed.slice fed.u8 service.name ++ fed.option (fed.slice fed.u8) service.protocol

-- each service that passes the test is marked at its place, and what was marked stays so
abbrev pub AreMarked : List ServiceId → (ServiceId → Bool) → List Bool → List Bool → Type 0
AreMarked services test old new =
    (service : ServiceId) (place : ℕ) → position (same_service service) services ≡ Some place
    → slice_get new place ≡ Some false
    → (slice_get old place ≡ Some false) × (test service ≡ false)

-- each service is marked of which something changes
abbrev pub AreAsked : List ServiceId → (ServiceId → Option ServiceChange) → List Bool → Type 0
AreAsked services change marks =
    (service : ServiceId) (place : ℕ) → position (same_service service) services ≡ Some place
    → slice_get marks place ≡ Some false → change service ≡ None
