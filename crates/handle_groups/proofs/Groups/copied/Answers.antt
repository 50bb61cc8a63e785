use Rattle.std.proofs.Common.{◌≡◌, string_bytes}
use Rattle.handle_groups.proofs.Entries.{stands-same, handles-copied}
use Rattle.handle_groups.proofs.Groups.copied.Goals as goal

pub returns : goal.returns
returns c = rw (← c.self.view_is) (λ n k.
    stands-same c.self.inside.groups.entries c.in_ok-clone.field-0.entries n k
    (handles-copied (λ s t. string_bytes t ≡ string_bytes s) _ (λ s t e. e) (λ h k e. e) c.self.inside.groups.entries c.in_ok-clone.field-0.entries n c.in_ok-clone.ensures.cases))
