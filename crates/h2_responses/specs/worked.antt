pub mod Servers
