-- The arguments by which something is asked (RFC 8907, sections 6.1, 7.1 and 8): texts `name=value`.
use Rattle.std.specs.Prelude.{ℕ, List, [], ◌∷◌, ◌++◌, map, codes, Option, Some, None}

-- a shell, or a line that is typed there
abbrev pub shell_service : List ℕ
shell_service = codes "service=shell"

-- the first word of a line is its cmd, and each other one a cmd-arg; without a word the shell itself
-- is asked for
abbrev pub command_arguments : List (List ℕ) → List (List ℕ)
command_arguments [] = shell_service ∷ codes "cmd=" ∷ []
command_arguments (word ∷ words) =
    shell_service ∷ (codes "cmd=" ++ word) ∷ map (λ it. codes "cmd-arg=" ++ it) words

-- a protocol of a service, where one is named
abbrev pub protocol_argument : Option (List ℕ) → List (List ℕ)
protocol_argument None = []
protocol_argument (Some protocol) = (codes "protocol=" ++ protocol) ∷ []

-- another service, with these attributes as they are
abbrev pub service_arguments : List ℕ → Option (List ℕ) → List (List ℕ) → List (List ℕ)
service_arguments service protocol attributes =
    ((codes "service=" ++ service) ∷ protocol_argument protocol) ++ attributes

-- a record of the task with this id: of a line, or without a word of a shell
abbrev pub record_arguments : List ℕ → List (List ℕ) → List (List ℕ)
record_arguments task [] = (codes "task_id=" ++ task) ∷ shell_service ∷ []
record_arguments task (word ∷ words) =
    (codes "task_id=" ++ task) ∷ command_arguments (word ∷ words)
