use Rattle.refusals.proofs.hubs.is_over.Given as goal

abbrev pub ghosts-is_over_by-J-HubName : goal.ghosts-is_over_by-J-HubName
ghosts-is_over_by-J-HubName g a = record { origin = a.parts.origin; book = a.parts.book }

abbrev pub ghosts-is_over_by-L-Ledger : goal.ghosts-is_over_by-L-Ledger
ghosts-is_over_by-L-Ledger g a = record { name = a.parts.first_name; parts = a.parts.first_parts }

abbrev pub ghosts-is_over_by-M-Ledger : goal.ghosts-is_over_by-M-Ledger
ghosts-is_over_by-M-Ledger g a = record { name = a.parts.second_name; parts = a.parts.second_parts }
