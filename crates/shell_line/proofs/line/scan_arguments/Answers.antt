use Rattle.shell_line.proofs.line.scan_arguments.Goals as goal

pub returns-in-Nothing-clause-found : goal.returns-in-Nothing-clause-found
returns-in-Nothing-clause-found c = rw c.in-Nothing.is c.scan.ensures.found

pub returns-in-Nothing-clause-fault : goal.returns-in-Nothing-clause-fault
returns-in-Nothing-clause-fault c = rw c.in-Nothing.is c.scan.ensures.fault

pub returns-in-One-clause-found : goal.returns-in-One-clause-found
returns-in-One-clause-found c = rw c.in-One.is c.scan_one.ensures.found

pub returns-in-One-clause-fault : goal.returns-in-One-clause-fault
returns-in-One-clause-fault c = rw c.in-One.is c.scan_one.ensures.fault

pub returns-in-Two-clause-found : goal.returns-in-Two-clause-found
returns-in-Two-clause-found c = rw c.in-Two.is c.scan_two.ensures.found

pub returns-in-Two-clause-fault : goal.returns-in-Two-clause-fault
returns-in-Two-clause-fault c = rw c.in-Two.is c.scan_two.ensures.fault

pub returns-in-Put-clause-found : goal.returns-in-Put-clause-found
returns-in-Put-clause-found c = rw c.in-Put.is c.scan_put.ensures.found

pub returns-in-Put-clause-fault : goal.returns-in-Put-clause-fault
returns-in-Put-clause-fault c = rw c.in-Put.is c.scan_put.ensures.fault

pub returns-in-Delete-clause-found : goal.returns-in-Delete-clause-found
returns-in-Delete-clause-found c = rw c.in-Delete.is c.scan_delete.ensures.found

pub returns-in-Delete-clause-fault : goal.returns-in-Delete-clause-fault
returns-in-Delete-clause-fault c = rw c.in-Delete.is c.scan_delete.ensures.fault

pub returns-in-Create-clause-found : goal.returns-in-Create-clause-found
returns-in-Create-clause-found c = rw c.in-Create.is c.scan_create.ensures.found

pub returns-in-Create-clause-fault : goal.returns-in-Create-clause-fault
returns-in-Create-clause-fault c = rw c.in-Create.is c.scan_create.ensures.fault
