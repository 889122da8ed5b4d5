mod Tables
mod Services
mod Rules
mod Routers
mod Outs
